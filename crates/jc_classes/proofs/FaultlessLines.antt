-- What is known where no class, no interface and no role is at fault.
use Rattle.std.proofs.Common.{◌≡◌, ℕ, zero, suc, ◌+◌, Bool, true, false, cond, List, [], ◌∷◌, map, Option, Some, None, refl, arith}
use Rattle.std.specs.Prelude.{◌==◌, All, is_some, is_none, slice_get, slice_index}
use Rattle.std.specs.List.{enumerate_from, filter_map}
use Rattle.std.proofs.lemmas.Bool.{false≢true, eq-eqb, eqb-true}
use Rattle.std.proofs.lemmas.List.Elements.{All-nil, All-weaker}
use Rattle.jc_base.specs.declared.record.Iface.{Iface}
use Rattle.jc_resolve.specs.declared.fault.LinkFault.{LinkFault}
use Rattle.jc_resolve.specs.declared.fault.LinkFault.TheVariants.{SuperIsInterface, Cycle, NoSuper, NotInterface}
use Rattle.jc_resolve.specs.declared.naming.NamedClass.{NamedClass}
use Rattle.jc_resolve.specs.Named.{is_interface}
use Rattle.first_fault.specs.First.{AllEmpty}
use Rattle.first_fault.proofs.LeastFaults.{faultless_first}
use Rattle.jc_resolve.proofs.Faultless.{faultless_at, flat_faultless}
use Rattle.jc_classes.specs.Ancestor.{is_above}
use Rattle.jc_classes.specs.LineConditions.{numbered, is_class_number, super_fault, cycle_fault}
use Rattle.jc_classes.specs.LineConditions.{fits_role, role_fault, root_fault, named_interfaces}
use Rattle.jc_classes.specs.LineConditions.{not_interface_fault, conditions}

-- ---- lists in which nothing is at fault

abbrev Faults : Type 0 → Type 0
Faults X = X → Option LinkFault

numbered-at : {X : Type 0} (n : ℕ) (xs : List X) (i m : ℕ) (x : X) → n + i ≡ m → slice_get xs i ≡ Some x
    → slice_get (enumerate_from n xs) i ≡ Some (m, x)
numbered-at n [] i m x e at = absurd cc
numbered-at n (y ∷ ys) zero m x e at = grind (arith)
numbered-at n (y ∷ ys) (suc i) m x e at = numbered-at (n + 1) ys i m x (omega arith) at

none-numbered : {X : Type 0} (f : Faults (ℕ × X)) (xs : List X) (c : ℕ) (x : X) → filter_map f (numbered xs) ≡ [] → slice_get xs c ≡ Some x
    → f (c, x) ≡ None
none-numbered f xs c x e at = faultless_at f (numbered xs) c (c, x) e (numbered-at 0 xs c c x (omega arith) at)

none-all : {X Y : Type 0} (f : Faults Y) (h : X → Y) (xs : List X) → filter_map f (map h xs) ≡ [] → All (λ x. f (h x) ≡ None) xs
none-all f h [] e = All-nil (λ x. f (h x) ≡ None)
none-all f h (x ∷ xs) e = grind (arith, faultless_first, none-all f h xs (faultless_first (f (h x)) (filter_map f (map h xs)) e).1)

refused-not : (b : Bool) (f : LinkFault) → (cond b (Some f) None) ≡ None → b ≡ false
refused-not x f e = grind (arith)

-- ---- each condition

-- nothing is at fault
pub record NoFault (cs : List NamedClass) (first : ℕ) (roles : List ℕ) : Type 0 where
  pub supers : (c p : ℕ) (r : NamedClass) → slice_get cs c ≡ Some r → r.parent ≡ Some p → is_interface cs p ≡ false
  pub cycles : (c : ℕ) (r : NamedClass) → slice_get cs c ≡ Some r → is_above cs r.interface c c ≡ false
  pub fitting : (k c : ℕ) → slice_get roles k ≡ Some c → fits_role cs first (slice_index roles 1) k c ≡ true
  pub rootless : (r : NamedClass) → slice_get cs (slice_index roles 0) ≡ Some r → r.interface ≡ false → r.parent ≡ None
  pub rooted : (c : ℕ) (r : NamedClass) → slice_get cs c ≡ Some r → r.interface ≡ false → r.parent ≡ None → c ≡ slice_index roles 0
  pub interfaces : (c : ℕ) (r : NamedClass) → slice_get cs c ≡ Some r → All (λ (i : Iface). is_class_number cs i.class ≡ false) r.interfaces

super-none : (cs : List NamedClass) (c p : ℕ) (r : NamedClass) → super_fault cs (c, r) ≡ None → r.parent ≡ Some p → is_interface cs p ≡ false
unfolding super_fault
super-none cs c p r e at = refused-not (is_interface cs p) (SuperIsInterface c) (rw at at e)

cycle-none : (cs : List NamedClass) (c : ℕ) (r : NamedClass) → cycle_fault cs (c, r) ≡ None → is_above cs r.interface c c ≡ false
unfolding cycle_fault
cycle-none cs c r e = refused-not (is_above cs r.interface c c) (Cycle c) e

role-none : (cs : List NamedClass) (first throwable k c : ℕ) → role_fault cs first throwable (k, c) ≡ None → fits_role cs first throwable k c ≡ true
unfolding role_fault
role-none cs first throwable k c e = grind (arith)

not_some : (o : Option ℕ) → is_some o ≡ false → o ≡ None
not_some x e = grind (arith, false≢true)

root-none : (object c : ℕ) (r : NamedClass) → root_fault object (c, r) ≡ None → r.interface ≡ false
    → cond (c == object) (is_some r.parent) (is_none r.parent) ≡ false
unfolding root_fault
root-none object c r e plain = refused-not (cond (c == object) (is_some r.parent) (is_none r.parent)) (NoSuper c) (rw plain at e)

rootless-is : (object : ℕ) (r : NamedClass) → root_fault object (object, r) ≡ None → r.interface ≡ false → r.parent ≡ None
rootless-is object r e plain = grind (arith, root-none object object r e plain, eq-eqb object object refl, not_some)

rooted-is : (object c : ℕ) (b : Bool) (r : NamedClass) → (c == object) ≡ b → root_fault object (c, r) ≡ None → r.interface ≡ false
    → r.parent ≡ None → c ≡ object
rooted-is object c true r same e plain none = eqb-true c object same
rooted-is object c false r same e plain none = grind (arith, root-none object c r e plain, false≢true)

interface-none : (cs : List NamedClass) (c : ℕ) (i : Iface) → not_interface_fault cs (c, i) ≡ None → is_class_number cs i.class ≡ false
unfolding not_interface_fault
interface-none cs c i e = refused-not (is_class_number cs i.class) (NotInterface c i.class) e

interfaces-none : (cs : List NamedClass) (c : ℕ) (r : NamedClass) → filter_map (not_interface_fault cs) (named_interfaces cs) ≡ []
    → slice_get cs c ≡ Some r
    → All (λ (i : Iface). is_class_number cs i.class ≡ false) r.interfaces
interfaces-none cs c r e at =
    let own = flat_faultless (not_interface_fault cs) (λ (p : ℕ × NamedClass). map (λ (i : Iface). (p.0, i)) p.1.interfaces) (numbered cs) c (c, r) e
    (numbered-at 0 cs c c r (omega arith) at) in
    All-weaker (λ (i : Iface). not_interface_fault cs (c, i) ≡ None) (λ (i : Iface). is_class_number cs i.class ≡ false)
    (λ i h. interface-none cs c i h) r.interfaces
    (none-all (not_interface_fault cs) (λ (i : Iface). (c, i)) r.interfaces own)

pub no_fault : (cs : List NamedClass) (first : ℕ) (roles : List ℕ) → AllEmpty (conditions cs first roles) → NoFault cs first roles
no_fault cs first roles (supers, (cycles, (fitting, (roots, (interfaces, done))))) = record {
  supers = λ c p r at named. super-none cs c p r (none-numbered (super_fault cs) cs c r supers at) named;
  cycles = λ c r at. cycle-none cs c r (none-numbered (cycle_fault cs) cs c r cycles at);
  fitting = λ k c at. role-none cs first (slice_index roles 1) k c (none-numbered (role_fault cs first (slice_index roles 1)) roles k c fitting at);
  rootless = grind (arith, rootless-is, none-numbered);
  rooted =
      λ c r at plain none. rooted-is (slice_index roles 0) c (c == slice_index roles 0) r refl
      (none-numbered (root_fault (slice_index roles 0)) cs c r roots at) plain none;
  interfaces = λ c r at. interfaces-none cs c r interfaces at;
}
