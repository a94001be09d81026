-- The records of the Class component stand one after the other, so no two classes stand at one place.
use Rattle.std.proofs.Common.{◌≡◌, ℕ, zero, suc, ◌+◌, ◌<◌, ◌≤◌, ◌⊎◌, Bool, true, false, leb, cond, List, [], ◌∷◌, length, map}
use Rattle.std.proofs.Common.{Option, Some, None, refl, sym, subst, ◌∙◌, arith, inl, inr}
use Rattle.std.specs.Prelude.{All, slice_get, option_map}
use Rattle.std.proofs.lemmas.Bool.{leb-true}
use Rattle.std.proofs.lemmas.List.Elements.{All-head, All-tail}
use Rattle.std.proofs.lemmas.Option.{slice_get-map}
use Rattle.jc_base.specs.Each.{Each}
use Rattle.jc_base.proofs.Eaching.{Each-append, Each-weaker, Each-map}
use Rattle.cap_bytes.specs.Grammar.{at_most, when, give, ◌>>=◌}
use Rattle.cap_bytes.specs.declared.fault.Format.{Format}
use Rattle.cap_bytes.specs.Spelling.{Spells, Stands}
use Rattle.cap_class.specs.ClassFormat.{Class, record_info, is_after, beyond_first, is_interface, class_flags, signature_pool, classes_info}
use Rattle.cap_package.specs.PackageRecord.{PackageRecord}
use Rattle.jc_resolve.specs.declared.fault.RecordPlace.{RecordPlace}
use Rattle.jc_resolve.specs.Named.{IsAgreed}
use Rattle.jc_resolve.specs.Numbering.{NumberedClass, numbered_class, numbered_classes_of, classes_after, place_of_class, class_places}
use Rattle.jc_resolve.proofs.Pairwise.{Pairwise, pairwise-append, one-place}
use Rattle.jc_resolve.proofs.Repeats.{goes_on}

-- ---- one component

abbrev IsLower : Class → Class → Type 0
IsLower c d = c.offset < d.offset

-- records that stand one after the other from a place on
pub record AreRising (at : ℕ) (cs : List Class) : Type 0 where
  pub from : Each (λ (c : Class). at ≤ c.offset) cs
  pub rising : Pairwise IsLower cs

none_rising : (at : ℕ) (cs : List Class) → cs ≡ [] → AreRising at cs
none_rising at cs e = subst (AreRising at) (sym e) (record { from = tt {0}; rising = tt {0} })

-- a record stands at the place from which it is read
at_offset : (interface : Bool) (offset first : ℕ) (bytes : List ℕ) (at : ℕ) (c : Class) (after : ℕ)
    → Spells (beyond_first interface offset first) bytes at c after → c.offset ≡ offset
unfolding Spells
at_offset x offset first bytes at c after h = grind (arith)

pub record StandsFrom (at : ℕ) (c : Class) (after : ℕ) : Type 0 where
  pub here : c.offset ≡ at
  pub moves : at < after

reach_by : (b : Bool) (x at n : ℕ) (bytes : List ℕ) → leb (at + 1) (length bytes) ≡ b → cond b (Some x) None ≡ Some n → at + 1 ≤ length bytes
reach_by x x2 at n bytes e h = grind (arith, leb-true)

record_at : (s : Bool) (bytes : List ℕ) (at : ℕ) (c : Class) (after : ℕ) → Spells (record_info s) bytes at c after → StandsFrom at c after
unfolding Spells record_info
record_at s bytes at c after h =
    let first = h.3.0 in
    let offset : h.0 ≡ at = h.2.0 in
    let start : h.1 ≡ at = h.2.1 in
    let next : h.3.1 ≡ h.1 + 1 = h.3.2.2 in
    let reach = reach_by _ _ h.1 first bytes refl h.3.2.0 in
    let go = goes_on (beyond_first (is_interface (class_flags first)) h.0 first) bytes h.3.1 c after (omega (arith, next, reach)) h.3.3 in
    let room = go.room in
    record { here = at_offset (is_interface (class_flags first)) h.0 first bytes h.3.1 c after h.3.3 ∙ offset; moves = omega arith }

one_more : (at mid : ℕ) (c : Class) (cs xs : List Class) → StandsFrom at c mid → AreRising mid cs → xs ≡ c ∷ cs → AreRising at xs
one_more at mid c cs xs here rest e =
    let lt = here.moves in
    let same = here.here in
    subst (AreRising at) (sym e) (record {
      from = (omega arith, Each-weaker (λ (d : Class). mid ≤ d.offset) (λ (d : Class). at ≤ d.offset) (λ d le. omega arith) cs rest.from);
      rising = (Each-weaker (λ (d : Class). mid ≤ d.offset) (IsLower c) (λ d le. omega arith) cs rest.from, rest.rising);
    })

rises_when : (n : ℕ) (s b : Bool) (bytes : List ℕ) (at : ℕ) (xs : List Class) (after : ℕ)
    → ((s' : Bool) (at' : ℕ) (ys : List Class) (end : ℕ) → at' ≤ length bytes → Spells (at_most n record_info is_after s') bytes at' ys end
    → AreRising at' ys)
    → at ≤ length bytes → Spells (when b [] (record_info s >>= λ x. at_most n record_info is_after (is_after s x) >>= λ ys. give (x ∷ ys))) bytes
    at xs after → AreRising at xs
unfolding Spells
rises_when n s false bytes at xs after others le h = none_rising at xs h.0
rises_when n s true bytes at xs after others le h =
    let here = record_at s bytes at h.0 h.1 h.2 in
    let reach = (goes_on (record_info s) bytes at h.0 h.1 le h.2).reach in
    one_more at h.1 h.0 h.3.0 xs here (others (is_after s h.0) h.1 h.3.0 h.3.1 reach h.3.2) h.3.3.0

rises : (n : ℕ) (s : Bool) (bytes : List ℕ) (at : ℕ) (xs : List Class) (after : ℕ) → at ≤ length bytes
    → Spells (at_most n record_info is_after s) bytes at xs after → AreRising at xs
unfolding Spells
rises zero s bytes at xs after le h = none_rising at xs h.0
rises (suc n) s bytes at xs after le h =
    let same : h.1 ≡ at = h.2.1 in
    subst (λ i. AreRising i xs) same (rises_when n s _ bytes h.1 xs after (λ s' at' ys end le' g. rises n s' bytes at' ys end le' g) (omega arith) h.3)

component_rises : (format : Format) (bytes : List ℕ) (cs : List Class) → Stands (classes_info format) bytes cs → Pairwise IsLower cs
unfolding Spells Stands
component_rises format bytes cs h =
    let pool = h.1 in
    let reach = (goes_on (signature_pool format) bytes 0 pool.0 pool.1 (omega arith) pool.2).reach in
    let until = pool.3 in
    let same : until.1 ≡ pool.1 = until.2.1 in
    (rises until.0 false bytes until.1 cs h.0 (omega arith) until.3).rising

classes_rise : (p : PackageRecord) → IsAgreed p → Pairwise IsLower p.classes
classes_rise p agreed = let said = agreed.said.classes in component_rises p.header.format said.0 p.classes said.1.said

-- ---- all packages

-- a class of an earlier package, or one that stands before another in one package
abbrev IsBefore : NumberedClass → NumberedClass → Type 0
IsBefore c d = (c.home < d.home) ⊎ ((c.home ≡ d.home) × (c.record_of.offset < d.record_of.offset))

homes_from : (k : ℕ) (ps : List PackageRecord) → Each (λ (c : NumberedClass). k ≤ c.home) (classes_after k ps)
homes_from k [] = tt {0}
homes_from k (p ∷ ps) =
    let P = λ (c : NumberedClass). k ≤ c.home in
    Each-append P (numbered_classes_of k p) (classes_after (k + 1) ps) (of_one p.classes)
    (Each-weaker (λ (c : NumberedClass). k + 1 ≤ c.home) P (λ c le. omega arith) (classes_after (k + 1) ps) (homes_from (k + 1) ps))
  where
    of_one : (cs : List Class) → Each (λ (c : NumberedClass). k ≤ c.home) (map (numbered_class k p) cs)
    of_one [] = tt {0}
    of_one (c ∷ cs) = (omega arith, of_one cs)

in_package : (k : ℕ) (p : PackageRecord) (cs : List Class) → Pairwise IsLower cs → Pairwise IsBefore (map (numbered_class k p) cs)
in_package k p [] h = tt {0}
in_package k p (c ∷ cs) h = (
  Each-map (IsBefore (numbered_class k p c)) (numbered_class k p) cs
      (Each-weaker (IsLower c) (λ d. IsBefore (numbered_class k p c) (numbered_class k p d)) (λ d lt. inr (refl, lt)) cs h.0),
  in_package k p cs h.1,
)

classes_before : (k : ℕ) (ps : List PackageRecord) → All IsAgreed ps → Pairwise IsBefore (classes_after k ps)
classes_before k [] agreed = tt {0}
classes_before k (p ∷ ps) agreed =
    pairwise-append IsBefore (numbered_classes_of k p) (classes_after (k + 1) ps)
    (in_package k p p.classes (classes_rise p (All-head IsAgreed p ps agreed)))
    (classes_before (k + 1) ps (All-tail IsAgreed p ps agreed))
    (across p.classes)
  where
    across : (cs : List Class) → Each (λ (c : NumberedClass). Each (IsBefore c) (classes_after (k + 1) ps)) (map (numbered_class k p) cs)
    across [] = tt {0}
    across (c ∷ cs) = (
      Each-weaker (λ (d : NumberedClass). k + 1 ≤ d.home) (IsBefore (numbered_class k p c)) (λ d le. inl (omega arith)) (classes_after (k + 1) ps)
          (homes_from (k + 1) ps),
      across cs,
    )

never_before : (c d : NumberedClass) (place : RecordPlace) → place_of_class c ≡ place → place_of_class d ≡ place → IsBefore c d → ⊥
never_before c d place e f w = grind (arith)

at_place : (o : Option NumberedClass) (place : RecordPlace) → option_map place_of_class o ≡ Some place → (c : NumberedClass) × (o ≡ Some c)
    × (place_of_class c ≡ place)
at_place x place h = grind (arith)

-- no two classes stand at one place
pub classes_apart : (ps : List PackageRecord) → All IsAgreed ps → (i j : ℕ) (place : RecordPlace) → slice_get (class_places ps) i ≡ Some place
    → slice_get (class_places ps) j ≡ Some place → i ≡ j
classes_apart ps agreed i j place e f = grind (arith, slice_get-map, one-place, classes_before, never_before)
