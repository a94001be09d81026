-- Each class of a package is described by one record of its Descriptor, which is found by the offset of the class.
use Rattle.std.proofs.Common.{◌≡◌, ℕ, ◌+◌, ◌<◌, ◌≤◌, Bool, true, false, cond, eqb, List, [], ◌∷◌, ◌++◌, append_assoc}
use Rattle.std.proofs.Common.{append-nil, length, length-append, map, flat_map, Some, None}
use Rattle.std.proofs.Common.{find, option_and_then, refl, sym, ap, ◌∙◌, arith}
use Rattle.std.specs.Prelude.{slice_get, count_by, ◌&&◌}
use Rattle.std.specs.List.{position_from, filter_map}
use Rattle.std.proofs.lemmas.Bool.{eqb-true, eqb-false, eq-eqb, ne_eqb, lt-ltb, le-ltb}
use Rattle.std.proofs.lemmas.Iterator.Adapters.{position_from-zero}
use Rattle.std.proofs.lemmas.List.Sums.{sum_by-cons}
use Rattle.first_fault.proofs.LeastFaults.{faultless_first}
use Rattle.cap_class.specs.ClassFormat.{Class}
use Rattle.cap_desc.specs.DescriptorFormat as described
use Rattle.cap_package.specs.NameChecks.{undescribed_fault}
use Rattle.cap_package.specs.PackageRecord.{PackageRecord}
use Rattle.cap_package.proofs.Agreed.{agrees}
use Rattle.cap_package.proofs.StaticsKnown.{three_empty}
use Rattle.jc_resolve.specs.Described.{describes_at, IsDescribedOnce, AreDescribedOnce, place_at, spot_of_record}
use Rattle.jc_resolve.specs.Named.{IsAgreed}
use Rattle.jc_resolve.specs.NamedClasses.{describes}
use Rattle.jc_resolve.specs.Numbering.{is_at}
use Rattle.jc_resolve.specs.Numbers.{none_numbered, number_by_place, with_all}
use Rattle.jc_resolve.proofs.NumberLaws.{numbered-first}

-- ---- the one thing of a list that passes a test

module _ {X Y : Type 0} (t : X → Bool) (f : X → List Y) where
  abbrev passed : X → List Y
  passed x = cond (t x) (f x) []

  none-passed : (xs : List X) → count_by t xs ≡ 0 → flat_map passed xs ≡ []
  none-passed [] e = refl
  none-passed (x ∷ xs) e = by (λ n. none-passed xs n) (t x) (sym (sum_by-cons (λ y. cond (t y) 1 0) x xs) ∙ e)
    where
      by : (count_by t xs ≡ 0 → flat_map passed xs ≡ []) → (b : Bool) → cond b 1 0 + count_by t xs ≡ 0 → cond b (f x) [] ++ flat_map passed xs
          ≡ []
      by later true n = absurd (omega (arith, n))
      by later false n = later (omega (arith, n))

  -- what the one gives is what all give
  pub one-passed : (xs : List X) (x : X) → count_by t xs ≡ 1 → find t xs ≡ Some x → flat_map passed xs ≡ f x
  one-passed [] x e h = absurd cc
  one-passed (y ∷ ys) x e h = by (λ n found. one-passed ys x n found) (t y) (sym (sum_by-cons (λ z. cond (t z) 1 0) y ys) ∙ e) h
    where
      by : (count_by t ys ≡ 1 → find t ys ≡ Some x → flat_map passed ys ≡ f x) → (b : Bool) → cond b 1 0 + count_by t ys ≡ 1
          → cond b (Some y) (find t ys) ≡ Some x → cond b (f y) [] ++ flat_map passed ys ≡ f x
      by later true n same =
          let e : y ≡ x = cc in
          ap (λ l. f y ++ l) (none-passed ys (omega (arith, n))) ∙ append-nil (f y) ∙ ap f e
      by later false n found = later (omega (arith, n)) found

  -- and where none passes, all give nothing
  pub nothing-passed : (xs : List X) → find t xs ≡ None → flat_map passed xs ≡ []
  nothing-passed [] h = refl
  nothing-passed (y ∷ ys) h = by (λ found. nothing-passed ys found) (t y) h
    where
      by : (find t ys ≡ None → flat_map passed ys ≡ []) → (b : Bool) → cond b (Some y) (find t ys) ≡ None
          → cond b (f y) [] ++ flat_map passed ys ≡ []
      by later true h = absurd cc
      by later false h = later h

-- ---- what the record of a class gives

module _ {Y : Type 0} (f : described.ClassDescriptor → List Y) (ds : List described.ClassDescriptor) (offset : ℕ) where
  -- what each record gives of the class at the offset
  abbrev given : List Y
  given = flat_map (λ (d : described.ClassDescriptor). cond (describes offset d) (f d) []) ds

  inside : offset < 0x8000 → given ≡ flat_map (λ (d : described.ClassDescriptor). cond (describes_at offset d) (f d) []) ds
  inside lt = ap (λ b. flat_map (λ (d : described.ClassDescriptor). cond (b && eqb d.class_ref offset) (f d) []) ds) (lt-ltb offset 0x8000 lt)

  pub given-there : (d : described.ClassDescriptor) → offset < 0x8000 → count_by (describes_at offset) ds ≡ 1
      → find (describes_at offset) ds ≡ Some d → given ≡ f d
  given-there d lt once found = inside lt ∙ one-passed (describes_at offset) f ds d once found

  pub given-none : offset < 0x8000 → find (describes_at offset) ds ≡ None → given ≡ []
  given-none lt none = inside lt ∙ nothing-passed (describes_at offset) f ds none

  all-none : (xs : List described.ClassDescriptor) → flat_map (λ (d : described.ClassDescriptor). cond (false && eqb d.class_ref offset) (f d) []) xs ≡ []
  all-none [] = refl
  all-none (x ∷ xs) = all-none xs

  pub given-outside : 0x8000 ≤ offset → given ≡ []
  given-outside le = grind (arith, le-ltb offset 0x8000 le, all-none ds, flat_map, cond, eqb)

-- ---- the record that is found

turned : (a b : ℕ) (c : Bool) → eqb a b ≡ c → eqb b a ≡ c
turned a b z e = grind (arith, eq-eqb, eqb-true, ne_eqb, eqb-false)

seam : (before : List described.ClassDescriptor) (d : described.ClassDescriptor) (ds : List described.ClassDescriptor)
    → slice_get (before ++ d ∷ ds) (length before) ≡ Some d
seam [] d ds = refl
seam (x ∷ before) d ds = seam before d ds

module _ (offset : ℕ) where
  search_on : (before ds : List described.ClassDescriptor)
      → option_and_then (slice_get (before ++ ds)) (position_from (is_at (place_at offset)) (length before) (map spot_of_record ds))
      ≡ find (describes_at offset) ds
  search_on before [] = refl
  search_on before (d ∷ ds) = by (search_on (before ++ d ∷ []) ds) (eqb d.class_ref offset) refl
    where
      next : length before + 1 ≡ length (before ++ d ∷ [])
      next = let e = length-append before (d ∷ []) in omega (arith, e)

      by : option_and_then (slice_get ((before ++ d ∷ []) ++ ds))
          (position_from (is_at (place_at offset)) (length (before ++ d ∷ [])) (map spot_of_record ds)) ≡ find (describes_at offset) ds
          → (b : Bool) → eqb d.class_ref offset ≡ b
          → option_and_then (slice_get (before ++ d ∷ ds))
          (cond (eqb offset d.class_ref) (Some (length before)) (position_from (is_at (place_at offset)) (length before + 1) (map spot_of_record ds)))
          ≡ cond (eqb d.class_ref offset) (Some d) (find (describes_at offset) ds)
      by later true e = rw (e, turned d.class_ref offset true e) (seam before d ds)
      by later false e =
          rw (e, turned d.class_ref offset false e)
          (ap (λ l. option_and_then (slice_get l) (position_from (is_at (place_at offset)) (length before + 1) (map spot_of_record ds)))
          (sym (append_assoc before (d ∷ []) ds))
          ∙ ap (λ n. option_and_then (slice_get ((before ++ d ∷ []) ++ ds)) (position_from (is_at (place_at offset)) n (map spot_of_record ds))) next
          ∙ later)

pub record-found : (ds : List described.ClassDescriptor) (offset : ℕ)
    → option_and_then (slice_get ds) (number_by_place (with_all none_numbered (map spot_of_record ds)).entries (place_at offset))
    ≡ find (describes_at offset) ds
record-found ds offset =
    ap (option_and_then (slice_get ds)) (numbered-first (map spot_of_record ds) (place_at offset)
    ∙ position_from-zero (is_at (place_at offset)) (map spot_of_record ds))
    ∙ search_on offset [] ds

-- ---- each class is described once

module _ (ds : List described.ClassDescriptor) where
  once : (c : Class) → undescribed_fault ds c ≡ None → IsDescribedOnce ds c
  unfolding undescribed_fault
  once c h = grind (arith, eqb-true)

  each_once : (cs : List Class) → filter_map (undescribed_fault ds) cs ≡ [] → AreDescribedOnce ds cs
  each_once [] e = tt {0}
  each_once (c ∷ cs) e =
      let both = faultless_first (undescribed_fault ds c) (filter_map (undescribed_fault ds) cs) e in
      (once c both.0, each_once cs both.1)

pub described_once : (p : PackageRecord) → IsAgreed p → AreDescribedOnce p.description.items.classes p.classes
described_once p agreed =
    let (undescribed, not_own, unknown) = three_empty _ _ _ (agrees p.parts p agreed.agree).classes in
    each_once p.description.items.classes p.classes undescribed
