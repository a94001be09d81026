-- Worlds that differ in the code of methods alone begin runs alike.
use Rattle.std.proofs.Common.{◌≡◌, Bool, cond, not, position, List, [], ◌∷◌, map, refl, sym, ap, ◌∙◌, arith}
use Rattle.std.specs.Prelude.{Option, option_map, slice_get}
use Rattle.std.specs.List.{position_or_len}
use Rattle.std.proofs.lemmas.List.{length-map}
use Rattle.std.proofs.lemmas.Option.{slice_get-map}
use Rattle.jc_base.specs.declared.record.MethodRec.{MethodRec}
use Rattle.jc_base.specs.World.{Linked, has_numbers}
use Rattle.vm_step.specs.Arguments.{Argument}
use Rattle.vm_step.specs.Start.{entry_fault}
use Rattle.law_laid.specs.Apart.{apart_from_code}
use Rattle.law_alike.specs.Starting.{StartsRefuseAlike, MethodsAreNumberedAlike}

-- what keeps a method from beginning a run is not in its code
fault-apart : (w : Linked) (args : List Argument) (o : Option MethodRec) → entry_fault w args (option_map apart_from_code o) ≡ entry_fault w args o
fault-apart w args z = grind (arith)

fault-same : (v w : Linked) (args : List Argument) (o : Option MethodRec) → v.classes ≡ w.classes → v.arrays ≡ w.arrays
    → entry_fault v args o ≡ entry_fault w args o
fault-same v w args o classes arrays = grind (arith)

pub starts-refuse-alike : (v : Linked) → StartsRefuseAlike v
starts-refuse-alike v w entry args same =
    let methods : option_map apart_from_code (slice_get v.methods entry) ≡ option_map apart_from_code (slice_get w.methods entry) =
    sym (slice_get-map apart_from_code v.methods entry)
    ∙ (ap (λ ms. slice_get ms entry) same.methods ∙ slice_get-map apart_from_code w.methods entry) in
    sym (fault-apart v args (slice_get v.methods entry))
    ∙ (ap (entry_fault v args) methods
    ∙ (fault-apart v args (slice_get w.methods entry) ∙ fault-same v w args (slice_get w.methods entry) same.classes same.arrays))

first-apart :
    (test : MethodRec → Bool) → ((m : MethodRec) → test (apart_from_code m) ≡ test m) → (ms : List MethodRec)
    → position_or_len test (map apart_from_code ms) ≡ position_or_len test ms
first-apart test same [] = refl
first-apart test same (m ∷ ms) = grind (arith, cond, not, first-apart test same ms)

position-apart :
    (test : MethodRec → Bool) → ((m : MethodRec) → test (apart_from_code m) ≡ test m) → (ms : List MethodRec)
    → position test (map apart_from_code ms) ≡ position test ms
position-apart test same ms = grind (arith, cond, first-apart, length-map)

pub methods-are-numbered-alike : (v : Linked) → MethodsAreNumberedAlike v
methods-are-numbered-alike v w home class_no method_no same =
    let test : MethodRec → Bool = has_numbers home class_no method_no in
    sym (position-apart test (λ m. refl) v.methods) ∙ (ap (position test) same.methods ∙ position-apart test (λ m. refl) w.methods)
