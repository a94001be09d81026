-- What is asked of methods where classes are linked asks for nothing of their code.
use Rattle.std.proofs.Common.{arith}
use Rattle.std.proofs.Common.{◌≡◌, ℕ, List, [], ◌∷◌, length, map, Bool, not, Option, Some, None, option_map, option_and_then, slice_get, refl}
use Rattle.std.proofs.Common.{sym, ap, ◌∙◌}
use Rattle.std.specs.Prelude.{if◌then◌else◌, slice_index, ◌&&◌}
use Rattle.std.specs.Option.{option_flatten}
use Rattle.std.specs.List.{list_all}
use Rattle.std.proofs.lemmas.Option.{slice_get-map}
use Rattle.jc_base.specs.declared.record.Iface.{Iface}
use Rattle.jc_base.specs.declared.record.MethodRec.{MethodRec}
use Rattle.jc_base.specs.Class.{ClassTable}
use Rattle.jc_base.specs.Dispatch.{has_body_in, is_concrete}
use Rattle.jc_resolve.specs.declared.fault.LinkFault.TheVariants.{InterfaceType, RoleAbstract}
use Rattle.jc_resolve.specs.declared.naming.NamedClass.{NamedClass}
use Rattle.jc_classes.specs.Outline.{LineTable}
use Rattle.jc_classes.specs.TableConditions.{DispatchEntry, hole_fault, Replacement, override_fault}
use Rattle.jc_classes.specs.TableConditions.{Implementation, serves, serves_all, interface_type_fault, conditions}
use Rattle.jc_classes.specs.Signatures.{entry_method, entry_signature, same_signature}
use Rattle.jc_link.specs.Roles.{role_fault, thrown_roles, abstract_roles}
use Rattle.law_package.proofs.Lists.{faults_same}
use Rattle.law_laid.specs.Apart.{apart_from_code}

abbrev bare : List MethodRec → List MethodRec
bare = map apart_from_code

tests_same : {X : Type 0} (f g : X → Bool) (xs : List X) → ((x : X) → f x ≡ g x) → list_all f xs ≡ list_all g xs
tests_same f g [] h = refl
tests_same f g (x ∷ xs) h = ap (λ b. b && list_all f xs) (h x) ∙ ap (λ b. g x && b) (tests_same f g xs h)

tests_map : {X Y : Type 0} (f : Y → Bool) (g : X → Y) (xs : List X) → list_all f (map g xs) ≡ list_all (λ x. f (g x)) xs
tests_map f g [] = refl
tests_map f g (x ∷ xs) = ap (λ b. f (g x) && b) (tests_map f g xs)

-- ---- an entry of a dispatch list

method_bare : (ms : List MethodRec) (entry : Option ℕ) → entry_method (bare ms) entry ≡ option_map apart_from_code (entry_method ms entry)
method_bare ms x = grind (arith, slice_get-map)

signature_of : (o : Option MethodRec) → option_map (λ (m : MethodRec). m.sig) (option_map apart_from_code o)
    ≡ option_map (λ (m : MethodRec). m.sig) o
signature_of x = grind (arith)

signature_bare : (ms : List MethodRec) (entry : Option ℕ) → entry_signature (bare ms) entry ≡ entry_signature ms entry
signature_bare ms entry = ap (option_map (λ (m : MethodRec). m.sig)) (method_bare ms entry) ∙ signature_of (entry_method ms entry)

hole_bare : (t : LineTable) (ms : List MethodRec) (e : DispatchEntry) → hole_fault t (bare ms) e ≡ hole_fault t ms e
unfolding hole_fault
hole_bare t ms e = grind (arith, method_bare)

override_bare : (ms : List MethodRec) (x : Replacement) → override_fault (bare ms) x ≡ override_fault ms x
unfolding override_fault
override_bare ms x = grind (arith, signature_bare)

-- ---- interfaces

token_bare : (ms : List MethodRec) (public : List (Option ℕ)) (o : Option ℕ)
    → option_and_then (λ token. entry_signature (bare ms) (option_flatten (slice_get public token))) o
    ≡ option_and_then (λ token. entry_signature ms (option_flatten (slice_get public token))) o
token_bare ms public None = refl
token_bare ms public (Some token) = signature_bare ms (option_flatten (slice_get public token))

serves_bare : (ms : List MethodRec) (public : List (Option ℕ)) (i : Iface) (m : MethodRec)
    → serves (bare ms) public i m ≡ serves ms public i m
serves_bare ms public i m = ap (λ o. same_signature o (Some m.sig)) (token_bare ms public (slice_get i.tokens m.token))

all_bare : (ms : List MethodRec) (public : List (Option ℕ)) (i : Iface) → serves_all (bare ms) public i ≡ serves_all ms public i
all_bare ms public i = grind (arith, tests_map, not, tests_same, serves_bare)

interface_bare : (ms : List MethodRec) (x : Implementation) → interface_type_fault (bare ms) x ≡ interface_type_fault ms x
unfolding interface_type_fault
interface_bare ms x = ap (λ b. if b then None else Some (InterfaceType x.class x.iface.class)) (all_bare ms x.public x.iface)

classes_bare : (t : LineTable) (cs : List NamedClass) (ms : List MethodRec) → conditions t cs (bare ms) ≡ conditions t cs ms
classes_bare t cs ms = grind (arith, faults_same, hole_bare, override_bare, interface_bare)

-- the conditions on dispatch lists and instances are the same of methods that are the same apart from code
pub class_conditions_same : (t : LineTable) (cs : List NamedClass) (now old : List MethodRec)
    → map apart_from_code now ≡ map apart_from_code old → conditions t cs now ≡ conditions t cs old
class_conditions_same t cs now old e = sym (classes_bare t cs now) ∙ ap (conditions t cs) e ∙ classes_bare t cs old

-- ---- concrete classes

body_bare : (o : Option MethodRec) → has_body_in (option_map apart_from_code o) ≡ has_body_in o
body_bare x = grind (arith)

concrete_bare : (t : ClassTable) (ms : List MethodRec) (c : ℕ) → is_concrete t (bare ms) c ≡ is_concrete t ms c
unfolding is_concrete
concrete_bare t ms c = grind (arith, length, not, tests_same, slice_get-map, body_bare, slice_get)

role_bare : (t : ClassTable) (ms : List MethodRec) (k : ℕ) → role_fault t (bare ms) k ≡ role_fault t ms k
unfolding role_fault
role_bare t ms k = ap (λ b. if b then None else Some (RoleAbstract k)) (concrete_bare t ms (slice_index t.roles k))

-- so are the roles whose class is abstract
pub abstract_roles_same : (t : ClassTable) (now old : List MethodRec) → map apart_from_code now ≡ map apart_from_code old
    → abstract_roles t now ≡ abstract_roles t old
abstract_roles_same t now old e =
    sym (faults_same (role_fault t (bare now)) (role_fault t now) thrown_roles (role_bare t now))
    ∙ ap (abstract_roles t) e
    ∙ faults_same (role_fault t (bare old)) (role_fault t old) thrown_roles (role_bare t old)
