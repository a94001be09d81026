-- Runs of positions by the last class that names an interface and does not end before them.
use Rattle.std.proofs.Common.{◌≡◌, ℕ, ◌+◌, ◌<◌, ◌≤◌, inl, inr, ⊎_elim, List, [], ◌∷◌, ◌++◌, length, get_or, subst, arith}
use Rattle.std.specs.Prelude.{Some, Contains, slice_get}
use Rattle.std.specs.List.Sorted.{IsNonDecreasing}
use Rattle.std.proofs.lemmas.Bool.{cases_lt}
use Rattle.std.proofs.lemmas.List.Elements.{Contains-append_left, Contains-push, Contains-push_cases, Contains-get_or}
use Rattle.jc_decode.proofs.Elements.{nothing-in}
use Rattle.vm_bound.specs.declared.spread.Block.{Block}
use Rattle.vm_bound.specs.Blocks.{AddsRun}
use Rattle.vm_bound.specs.Runs.{end_of, IsWithin, IsInnermost, IsByInnermost, IsSweep, IsFree}
use Rattle.vm_bound.proofs.Covering.{runs-skip, runs-more}
use Rattle.vm_bound.proofs.Stacks.{place-of, last-most, front-rising, pushed-rising}

module _ (order ends naming : List ℕ) where
  -- a naming position that a position is within, where no later one stands before it, is begun
  is-begun : (k from to p q : ℕ) (begun : List ℕ) (blocks : List Block) → IsFree naming k to → IsSweep order ends naming k from begun blocks
      → Contains naming p → IsWithin ends p q → from ≤ q → q < to → Contains begun p
  is-begun k from to p q begun blocks free sweep among within low high = grind (arith, place-of naming p among, cases_lt among.0 k, ⊎_elim)

  -- the positions up to another one, which is not past the end of the last begun one
  pub sweep-on : (k from to last by : ℕ) (rest : List ℕ) (old new : List Block) → IsFree naming k to → from ≤ to → to ≤ end_of ends last
      → slice_get order last ≡ Some by → AddsRun (length order) from to (Some by) old new
      → IsSweep order ends naming k from (rest ++ last ∷ []) old → IsSweep order ends naming k to (rest ++ last ∷ []) new
  sweep-on k from to last by rest old new free l end class adds sweep = record {
    runs = runs-more (length order) (IsByInnermost order ends naming) from to (Some by) old new
        (λ q low high. (last, innermost q low high, class)) adds sweep.runs;
    among = λ p c. let was = sweep.among p c in (was.0, let m = was.1 in omega (arith, m, l));
    ended = λ j lower. ⊎_elim (λ is. inl is) (λ over. inr (omega (arith, over, l))) (sweep.ended j lower);
    rising = sweep.rising;
  }
    where
      innermost : (q : ℕ) → from ≤ q → q < to → IsInnermost ends naming q last
      innermost q low high =
          let was = sweep.among last (Contains-push rest last) in
          let m = was.1 in
          record {
            among = was.0;
            within = (omega (arith, m, low), omega (arith, high, end));
            last = λ p among within.
                last-most rest last p sweep.rising (is-begun k from to p q (rest ++ last ∷ []) old free sweep among within low high);
          }

  -- those up to another one, where none is begun
  pub sweep-skips : (k from to : ℕ) (blocks : List Block) → IsFree naming k to → from ≤ to → IsSweep order ends naming k from [] blocks
      → IsSweep order ends naming k to [] blocks
  sweep-skips k from to blocks free l sweep = record {
    runs = runs-skip (length order) (IsByInnermost order ends naming) from to blocks
        (λ q low high p among within. nothing-in p (is-begun k from to p q [] blocks free sweep among within low high)) sweep.runs;
    among = λ p c. absurd (nothing-in p c);
    ended = λ j lower. ⊎_elim (λ is. inl is) (λ over. inr (omega (arith, over, l))) (sweep.ended j lower);
    rising = sweep.rising;
  }

  -- the last begun one ends
  pub sweep-closes : (k at last : ℕ) (rest : List ℕ) (blocks : List Block) → end_of ends last ≤ at
      → IsSweep order ends naming k at (rest ++ last ∷ []) blocks → IsSweep order ends naming k at rest blocks
  sweep-closes k at last rest blocks end sweep = record {
    runs = sweep.runs;
    among = λ p c. sweep.among p (Contains-append_left rest (last ∷ []) p c);
    ended = λ j lower. ⊎_elim
        (λ c.
        ⊎_elim (λ is. inl is) (λ e. inr (subst (λ (x : ℕ). end_of ends x ≤ at) e end))
        (Contains-push_cases rest last (get_or naming j 0) c))
        (λ over. inr over) (sweep.ended j lower);
    rising = front-rising rest last sweep.rising;
  }

  -- the next one opens
  pub sweep-opens : (k : ℕ) (begun : List ℕ) (blocks : List Block) → k < length naming → IsSweep order ends naming k (get_or naming k 0) begun blocks
      → IsSweep order ends naming (k + 1) (get_or naming k 0) (begun ++ get_or naming k 0 ∷ []) blocks
  sweep-opens k begun blocks inside sweep = record {
    runs = sweep.runs;
    among = λ p c. ⊎_elim (λ was. sweep.among p was)
        (λ e. (subst (Contains naming) e (Contains-get_or naming k 0 inside), omega (arith, e))) (Contains-push_cases begun at p c);
    ended = λ j l. elim (cases_lt j k) [
      | inl lower ↦
          ⊎_elim (λ c. inl (Contains-append_left begun (at ∷ []) (get_or naming j 0) c)) (λ over. inr over) (sweep.ended j lower)
      | inr past ↦
          let same : k ≡ j = omega (arith, l, past) in
          inl (subst (λ (x : ℕ). Contains (begun ++ at ∷ []) (get_or naming x 0)) same (Contains-push begun at))
    ];
    rising = pushed-rising begun at sweep.rising (λ p c. (sweep.among p c).1);
  }
    where
      at : ℕ
      at = get_or naming k 0

  pub free-later : IsNonDecreasing naming → (k : ℕ) → IsFree naming k (get_or naming k 0)
  free-later rising k j low inside = rising k j 0 low inside

  pub free-end : (k to : ℕ) → length naming ≤ k → IsFree naming k to
  free-end k to past j low inside = absurd (omega (arith, past, low, inside))

  pub free-before : (k from to : ℕ) → from ≤ to → IsFree naming k to → IsFree naming k from
  free-before k from to l free j low inside = let after = free j low inside in omega (arith, l, after)
