-- The entries of an index are looked for among the instructions in one walk.
use Rattle.std.proofs.Common.{◌≡◌, ℕ, zero, suc, ◌+◌, ◌-◌, ◌<◌, ◌≤◌, ◌⊎◌, inl, inr, ⊎_elim, List, [], ◌∷◌, ◌++◌}
use Rattle.std.proofs.Common.{length, get_or, All, Some, slice_get, refl, sym, ap, subst, ◌∙◌, arith, append_assoc, Contains}
use Rattle.std.proofs.lemmas.Bool.{cases_lt}
use Rattle.std.proofs.lemmas.List.{append-nil}
use Rattle.std.proofs.lemmas.List.Elements.{Contains-push_cases}
use Rattle.std.proofs.lemmas.Option.{slice_get_within, slice_get-get_or, same_Some}
use Rattle.jc_base.specs.Index.{IsAscending}
use Rattle.jc_base.proofs.Lists.{slice_get-farther}
use Rattle.jc_decode.specs.declared.insn.Placed.{Placed}
use Rattle.jc_decode.specs.Listing.{listing}
use Rattle.jc_control.specs.WellFormed.{HasInstruction, IsPlace}
use Rattle.jc_decode.specs.Laws.{AreListed}
use Rattle.jc_decode.proofs.Elements.{Contains-slice_get}
use Rattle.card_verify.specs.Refusal.{IsBadEntry, bad_place, bad_order, IsFirstBadEntry}
use Rattle.card_verify.specs.Seeking.{IsSought, HasNone}

-- ---- an instruction in the middle of a list

at-middle : (pre : List Placed) (i : Placed) (post : List Placed) → slice_get (pre ++ i ∷ post) (length pre) ≡ Some i
at-middle pre i post = slice_get-farther pre (i ∷ post) 0 (length pre) (omega arith)

-- where places rise, what comes at a greater place stands after it
after-middle : (code : List ℕ) → AreListed code → (pre : List Placed) (i : Placed) (post : List Placed) → pre ++ i ∷ post ≡ listing code
    → (j : Placed) → HasInstruction code j → i.place < j.place → Contains post j
after-middle code order pre i post whole j c lt = by (c.0 - length pre) refl
  where
    there : slice_get (listing code) c.0 ≡ Some j
    there = slice_get-get_or (listing code) c.0 j c.1 ∙ ap Some c.2

    here : slice_get (listing code) (length pre) ≡ Some i
    here = ap (λ xs. slice_get xs (length pre)) (sym whole) ∙ at-middle pre i post

    behind : length pre ≤ c.0
    behind =
        ⊎_elim (λ less. let up = order.rising c.0 (length pre) j i there here less in absurd (omega (arith, up, lt))) (λ ge. ge)
        (cases_lt c.0 (length pre))

    rest : slice_get (i ∷ post) (c.0 - length pre) ≡ Some j
    rest = sym (slice_get-farther pre (i ∷ post) (c.0 - length pre) c.0 (omega (arith, behind))) ∙ ap (λ xs. slice_get xs c.0) whole ∙ there

    by : (n : ℕ) → c.0 - length pre ≡ n → Contains post j
    by zero e =
        let same : slice_get (i ∷ post) zero ≡ Some j = ap (slice_get (i ∷ post)) (sym e) ∙ rest in
        let own : i ≡ j = cc in
        absurd (omega (arith, lt, ap (λ (k : Placed). k.place) own))
    by (suc n) e = Contains-slice_get post n j (ap (slice_get (i ∷ post)) (sym e) ∙ rest)

-- ---- after k entries

-- they are places in ascending order, and below the least that the next may be; the instructions from there on are left
pub record IsOrderedTo (code index : List ℕ) (k least : ℕ) (left : List Placed) : Type 0 where
  pub passed : List Placed
  pub whole : passed ++ left ≡ listing code
  pub so_far : (j q : ℕ) → j < k → slice_get index j ≡ Some q → IsPlace code q × (q < least)
  pub up : (j p q : ℕ) → j + 1 < k → slice_get index j ≡ Some p → slice_get index (j + 1) ≡ Some q → p < q
  pub last : (k ≡ 0) × (least ≡ 0) ⊎ ((j q : ℕ) × (j + 1 ≡ k) × (slice_get index j ≡ Some q) × (least ≡ q + 1))
  pub ahead : (i : Placed) → HasInstruction code i → least ≤ i.place → Contains left i

pub ordered-first : (code index : List ℕ) → IsOrderedTo code index 0 0 (listing code)
ordered-first code index = grind (arith)

module _ (code index : List ℕ) (order : AreListed code) (k least : ℕ) (left : List Placed) (is : IsOrderedTo code index k least left) where
  module _ (p : ℕ) (at : slice_get index k ≡ Some p) where
    pub ordered-next : (new : List Placed) → least ≤ p → IsSought p left new → IsOrderedTo code index (k + 1) (p + 1) new
    ordered-next new le s = record {
      passed = before ++ s.found ∷ [];
      whole = append_assoc before (s.found ∷ []) new ∙ together;
      so_far = λ j q lt there. ⊎_elim (λ less. let old = is.so_far j q less there in (old.0, omega (arith, old.1, le))) (λ ge.
          let same : j ≡ k = omega (arith, lt, ge) in
          let own : q ≡ p = same_Some q p (sym there ∙ ap (slice_get index) same ∙ at) in
          (subst (IsPlace code) (sym own) place, omega (arith, own))) (cases_lt j k);
      up = λ j o q lt there next. ⊎_elim (λ less. is.up j o q less there next) (λ ge.
          let same : j + 1 ≡ k = omega (arith, lt, ge) in
          let own : q ≡ p = same_Some q p (sym next ∙ ap (slice_get index) same ∙ at) in
          let old = (is.so_far j o (omega (arith, lt)) there).1 in
          omega (arith, own, old, le)) (cases_lt (j + 1) k);
      last = inr (k, p, refl, at, refl);
      ahead = λ i stands ge. after-middle code order before s.found new together i stands (omega (arith, ge, s.at));
    }
      where
        before : List Placed
        before = is.passed ++ s.passed

        together : before ++ s.found ∷ new ≡ listing code
        together = append_assoc is.passed s.passed (s.found ∷ new) ∙ ap (λ xs. is.passed ++ xs) (sym s.whole) ∙ is.whole

        place : IsPlace code p
        place = (
          s.found,
          subst (λ xs. Contains xs s.found) together
              (Contains-slice_get (before ++ s.found ∷ new) (length before) s.found (at-middle before s.found new)),
          s.at,
        )

    none-before : (j : ℕ) → j < k → ¬ (IsBadEntry code index j)
    none-before j lt bad = by j bad lt
      where
        by : (n : ℕ) → IsBadEntry code index n → n < k → ⊥
        by _ (bad_place n q there none) less = none (is.so_far n q less there).0
        by _ (bad_order n o q there next ge) less = let rises = is.up n o q less there next in omega (arith, rises, ge)

    pub ordered-low : p < least → IsFirstBadEntry code index k
    ordered-low low = record { bad = by is.last; least = none-before }
      where
        by : (k ≡ 0) × (least ≡ 0) ⊎ ((j q : ℕ) × (j + 1 ≡ k) × (slice_get index j ≡ Some q) × (least ≡ q + 1)) → IsBadEntry code index k
        by (inl none) = absurd (omega (arith, low, none.1))
        by (inr one) =
            subst (IsBadEntry code index) one.2
            (bad_order one.0 one.1 p one.3 (ap (slice_get index) one.2 ∙ at) (omega (arith, low, one.4)))

    pub ordered-none : least ≤ p → HasNone p left → IsFirstBadEntry code index k
    ordered-none le none = record {
      bad = bad_place k p at (λ place. none place.0 (is.ahead place.0 place.1 (omega (arith, le, place.2))) place.2);
      least = none-before;
    }

  pub ordered-ascending : length index ≤ k → IsAscending index
  ordered-ascending all j p q there next = is.up j p q (omega (arith, all, slice_get_within index (j + 1) q next)) there next

  pub ordered-places : length index ≤ k → All (IsPlace code) index
  ordered-places all j d lt = (is.so_far j (get_or index j d) (omega (arith, all, lt)) (slice_get-get_or index j d lt)).0

-- ---- going on to a place

pub record IsSeeking (place : ℕ) (before left : List Placed) : Type 0 where
  pub passed : List Placed
  pub whole : before ≡ passed ++ left
  pub none : HasNone place passed

module _ (place : ℕ) (before left : List Placed) (i : Placed) (after : List Placed) (is : IsSeeking place before left) (step : left ≡ i ∷ after) where
  pub seeking-found : i.place ≡ place → IsSought place before after
  seeking-found at = record { passed = is.passed; found = i; at = at; whole = is.whole ∙ ap (λ xs. is.passed ++ xs) step }

  pub seeking-next : ¬ (i.place ≡ place) → IsSeeking place before after
  seeking-next other = record {
    passed = is.passed ++ i ∷ [];
    whole = is.whole ∙ ap (λ xs. is.passed ++ xs) step ∙ sym (append_assoc is.passed (i ∷ []) after);
    none = λ j c e. ⊎_elim (λ old. is.none j old e) (λ same. other (ap (λ (k : Placed). k.place) same ∙ e)) (Contains-push_cases is.passed i j c);
  }

pub seeking-none : (place : ℕ) (before left : List Placed) → IsSeeking place before left → left ≡ [] → HasNone place before
seeking-none place before left is empty i c e =
    is.none i (subst (λ xs. Contains xs i) (is.whole ∙ ap (λ xs. is.passed ++ xs) empty ∙ append-nil is.passed) c) e
