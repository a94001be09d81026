-- A class of a package that is added has a number after those of the packages before.
use Rattle.std.proofs.Common.{◌≡◌, ◌<◌, ◌≤◌, ◌+◌, ℕ, zero, suc, List, [], ◌∷◌, ◌++◌, length, map, position, slice_get, Bool, true, false}
use Rattle.std.proofs.Common.{cond}
use Rattle.std.proofs.Common.{Option, Some, None, IfSome, sym, ap, ◌∙◌, arith, All}
use Rattle.std.specs.Prelude.{◌==◌, ◌&&◌}
use Rattle.std.specs.List.{position_from}
use Rattle.std.proofs.lemmas.Iterator.Adapters.{position_from-zero}
use Rattle.std.proofs.lemmas.List.{map-append, length-map}
use Rattle.cap_package.specs.PackageRecord.{PackageRecord}
use Rattle.jc_resolve.specs.declared.fault.RecordPlace.{RecordPlace}
use Rattle.jc_resolve.specs.Numbering.{NumberedClass, numbered_classes, classes_after, place_of_class, class_places, same_place, class_at}
use Rattle.jc_resolve.specs.References.{class_referred, class_named}
use Rattle.jc_resolve.proofs.ReferenceLaws.{internal-is}
use Rattle.law_added.proofs.Numbers.{classes_are, classes_until, each_mapped}

pub all_at : {X : Type 0} (P : X → Type 0) (xs : List X) → All P xs → (n : ℕ) → IfSome (slice_get xs n) P
all_at P [] h n = tt
all_at P (x ∷ xs) h zero = h 0 x (omega arith)
all_at P (x ∷ xs) h (suc n) = all_at P xs (λ i d lt. h (suc i) d (omega (arith, lt))) n

-- what is found where nothing of the first elements passes is found after these
after_from : {X : Type 0} (t : X → Bool) (n : ℕ) (xs ys : List X) (found : ℕ) → ((k : ℕ) → IfSome (slice_get xs k) (λ x. t x ≡ false))
    → position_from t n (xs ++ ys) ≡ Some found → n + length xs ≤ found
after_from t n [] ys found h e = least t n ys e
  where
    by : {X : Type 0} (t : X → Bool) (n : ℕ) (ys : List X) (b : Bool) → (position_from t (n + 1) ys ≡ Some found → n + 1 ≤ found)
        → cond b (Some n) (position_from t (n + 1) ys) ≡ Some found → n ≤ found
    by t n ys true rest e = let same : n ≡ found = cc in omega (arith, same)
    by t n ys false rest e = omega (arith, rest e)

    at_least : {X : Type 0} (t : X → Bool) (n : ℕ) (ys : List X) → position_from t n ys ≡ Some found → n ≤ found
    at_least t n [] e = absurd cc
    at_least t n (y ∷ ys) e = by t n ys (t y) (at_least t (n + 1) ys) e

    least : {X : Type 0} (t : X → Bool) (n : ℕ) (ys : List X) → position_from t n ys ≡ Some found → n + 0 ≤ found
    least t n ys e = omega (arith, at_least t n ys e)
after_from t n (x ∷ xs) ys found h e =
    let rest = after_from t (n + 1) xs ys found (λ k. h (suc k)) (sym (ap (λ b. cond b (Some n) (position_from t (n + 1) (xs ++ ys))) (h 0)) ∙ e) in
    omega (arith, rest)

apart : (a b : ℕ) (c : Bool) → b < a → (a == b) && c ≡ false
apart a b c lt = let ne : (a == b) ≡ false = grind (arith, lt) in ap (λ x. x && c) ne

module _ (ps qs : List PackageRecord) where
  later_class : (place : RecordPlace) (found : ℕ) → length ps ≤ place.«package» → class_at (ps ++ qs) place ≡ Some found
      → length (numbered_classes ps) ≤ found
  unfolding class_at
  later_class place found le e =
      let all : class_places (ps ++ qs) ≡ class_places ps ++ map place_of_class (classes_after (length ps) qs) =
      ap (map place_of_class) (classes_are ps qs) ∙ map-append place_of_class (numbered_classes ps) (classes_after (length ps) qs) in
      let fails =
      each_mapped (λ (p : RecordPlace). same_place place p ≡ false) place_of_class (numbered_classes ps)
      (λ k. by (slice_get (numbered_classes ps) k) (classes_until 0 ps k)) in
      let most =
      after_from (same_place place) 0 (class_places ps) (map place_of_class (classes_after (length ps) qs)) found fails
      (sym (position_from-zero (same_place place) (class_places ps ++ map place_of_class (classes_after (length ps) qs)))
      ∙ sym (ap (position (same_place place)) all) ∙ e) in
      omega (arith, most, length-map (numbered_classes ps) place_of_class)
    where
      by : (o : Option NumberedClass) → IfSome o (λ c. c.home < 0 + length ps) → IfSome o (λ c. same_place place (place_of_class c) ≡ false)
      by None h = tt
      by (Some c) h = apart place.«package» c.home (place.offset == c.record_of.offset) (omega (arith, le, h))

  pub own_number : (k reference found : ℕ) → length ps ≤ k → reference < 0x8000 → class_named (ps ++ qs) k reference ≡ Some found
      → length (numbered_classes ps) ≤ found
  unfolding class_named class_referred
  own_number k reference found le own e = grind (arith, later_class, internal-is)
