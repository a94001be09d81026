-- What a tally of descriptions and the set of the starts of class records tell.
use Rattle.std.proofs.Common.{◌≡◌, ℕ, ◌+◌, ◌≤◌, Bool, true, false, cond, eqb, ◌&&◌, ◌||◌, List, [], ◌∷◌, map, count_by}
use Rattle.std.proofs.Common.{refl, sym, subst, arith, eq-eqb, ne_eqb, true≢false}
use Rattle.std.proofs.lemmas.List.Sums.{sum_by-cons}
use Rattle.offset_set.specs.Sets.{is_among, is_repeated}
use Rattle.offset_set.specs.Tallies.{Tallied, tally_of, once}
use Rattle.cap_class.specs.ClassFormat.{Class}
use Rattle.cap_desc.specs.DescriptorFormat as desc
use Rattle.cap_package.specs.NameChecks.{undescribed_fault, undescribed_class_fault, not_own_fault, is_class_at, own, class_unless}

abbrev pub refs : List desc.ClassDescriptor → List ℕ
refs = map (λ (d : desc.ClassDescriptor). d.class_ref)

abbrev count : ℕ → List desc.ClassDescriptor → ℕ
count offset = count_by (λ (d : desc.ClassDescriptor). eqb d.class_ref offset)

-- ---- how often an offset is counted

-- what two tests tell of a number: whether it is not 0, and whether it is 2 or more
record Tells (some many : Bool) (n : ℕ) : Type 0 where
  none : some ≡ false → n ≡ 0
  one : some ≡ true → 1 ≤ n
  few : many ≡ false → n ≤ 1
  two : many ≡ true → 2 ≤ n

tells_next : (b some many : Bool) (n : ℕ) → Tells some many n → Tells (b || some) ((b && some) || many) (cond b 1 0 + n)
tells_next x some many n t = grind (arith, true≢false)

tells : (ds : List desc.ClassDescriptor) (offset : ℕ) → Tells (is_among (refs ds) offset) (is_repeated (refs ds) offset) (count offset ds)
tells [] offset = grind (arith, true≢false)
tells (d ∷ ds) offset =
    subst (Tells (eqb d.class_ref offset || is_among (refs ds) offset)
    ((eqb d.class_ref offset && is_among (refs ds) offset) || is_repeated (refs ds) offset))
    (sym (sum_by-cons (λ (e : desc.ClassDescriptor). cond (eqb e.class_ref offset) 1 0) d ds))
    (tells_next (eqb d.class_ref offset) (is_among (refs ds) offset) (is_repeated (refs ds) offset) (count offset ds)
    (tells ds offset))

pub described_once : (t : Tallied) (ds : List desc.ClassDescriptor) → t ≡ tally_of (refs ds) →
    (λ (c : Class). class_unless (once t) c.offset) ≡ undescribed_fault ds
unfolding undescribed_fault
described_once t ds e = grind (arith, cond, tells, eq-eqb, ne_eqb)

pub class_there : (starts : ℕ → Bool) (classes : List Class) → starts ≡ is_class_at classes →
    class_unless starts ≡ undescribed_class_fault classes
unfolding undescribed_class_fault
class_there starts classes e = rw e refl

pub own_there : (starts : ℕ → Bool) (classes : List Class) → starts ≡ is_class_at classes →
    class_unless (own starts) ≡ not_own_fault classes
unfolding not_own_fault
own_there starts classes e = rw e refl
