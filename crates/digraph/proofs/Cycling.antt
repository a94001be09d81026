-- Where each vertex that is not known waits for another, ways come to a vertex again.
use Rattle.std.proofs.Common.{◌≡◌, ℕ, zero, suc, ◌<◌, ◌⊎◌, inl, inr, ⊎_elim, Bool, true, false, List, [], length, sym, ap, ◌∙◌, subst, arith}
use Rattle.std.specs.Prelude.{All, slice_index_or, replicate, Option, None}
use Rattle.std.proofs.Math.ListN.{set, length-set}
use Rattle.std.proofs.lemmas.Bool.{cases_eq}
use Rattle.std.proofs.lemmas.List.{get_or-set_same, get_or-set_other, length-replicate}
use Rattle.std.proofs.lemmas.List.Elements.{All-contains, All-get_or}
use Rattle.std.proofs.lemmas.List.Sums.{sum_by-set}
use Rattle.digraph.specs.Way.{Leads, by_step, Recurs}
use Rattle.digraph.specs.Graph.{Edge, IsGraph}
use Rattle.digraph.specs.Marks.{IsMarked, one_if_free, unmarked}
use Rattle.digraph.specs.Settled.{known_at, IsStuck}
use Rattle.digraph.proofs.Leading.{leads-more}
use Rattle.digraph.proofs.Marking.{marked-none}

module _ (g : List (List ℕ)) (known : List (Option ℕ)) (from : ℕ) (graph : IsGraph g) (stuck : (v : ℕ) → v < length g → IsStuck g known v) where
  record Passed (cur m : ℕ) : Type 0 where
    there : (from ≡ m) ⊎ Leads (Edge g) from m
    comes : (m ≡ cur) ⊎ Leads (Edge g) m cur

  -- the walk is at a vertex that is not known, and has come to it from all that it marked
  record Walks (marks : List Bool) (cur : ℕ) : Type 0 where
    lengths : length marks ≡ length g
    inside : cur < length g
    is_unknown : known_at known cur ≡ None
    is_marked : IsMarked marks cur
    passed : (m : ℕ) → IsMarked marks m → Passed cur m

  cases : (b : Bool) → (b ≡ true) ⊎ (b ≡ false)
  cases x = grind (arith)

  onward : (marks : List Bool) (cur to : ℕ) → Walks marks cur → Edge g cur to → to < length g → known_at known to ≡ None
      → Walks (set marks to true) to
  onward marks cur to w e inside is = record {
    lengths = length-set marks to true ∙ w.lengths;
    inside = inside;
    is_unknown = is;
    is_marked = get_or-set_same marks to true false (omega (arith, w.lengths));
    passed = passed;
  }
    where
      here : Passed cur cur
      here = w.passed cur w.is_marked

      passed : (m : ℕ) → IsMarked (set marks to true) m → Passed to m
      passed m h = elim (cases_eq m to) [
        | inl at ↦ record {
          there = subst (λ x. (from ≡ x) ⊎ Leads (Edge g) from x) (sym at) (inr (⊎_elim
              (λ is. by_step (subst (λ x. Edge g x to) (sym is) e)) (λ l. leads-more l e) here.there));
          comes = inl at;
        }
        | inr other ↦
            let old = w.passed m (sym (get_or-set_other marks to m true false other) ∙ h) in
            record {
              there = old.there;
              comes = inr (⊎_elim (λ is. by_step (subst (λ x. Edge g x to) (sym is) e)) (λ l. leads-more l e) old.comes);
            }
      ]

  walk : (fuel : ℕ) (marks : List Bool) (cur : ℕ) → unmarked marks < fuel → Walks marks cur → (v : ℕ) × Recurs (Edge g) from v
  walk zero marks cur few w = absurd (omega arith)
  walk (suc fuel) marks cur few w =
      let next = stuck cur w.inside w.is_unknown in
      let inside : next.to < length g =
      All-contains (λ x. x < length g) (slice_index_or g cur []) next.to (All-get_or (All (λ x. x < length g)) g cur [] w.inside graph.edges) next.among in
      elim (cases (slice_index_or marks next.to false)) [
        | inl had ↦
            let p = w.passed next.to had in (
              next.to,
              record {
                there = p.there;
                again = ⊎_elim (λ is. by_step (subst (λ x. Edge g x next.to) (sym is) next.among))
                    (λ l. leads-more l next.among) p.comes;
              },
            )
        | inr free ↦
            let s = sum_by-set one_if_free marks next.to true false (omega (arith, w.lengths)) in
            let o : one_if_free (slice_index_or marks next.to false) ≡ 1 = ap one_if_free free in
            walk fuel (set marks next.to true) next.to (omega (arith, s, o)) (onward marks cur next.to w next.among inside next.is_unknown)
      ]

  abbrev first : List Bool
  first = set (replicate (length g) false) from true

  pub comes-again : from < length g → known_at known from ≡ None → (v : ℕ) × Recurs (Edge g) from v
  comes-again inside is = walk (suc (unmarked first)) first from (omega arith) (record {
    lengths = length-set (replicate (length g) false) from true ∙ length-replicate (length g) false;
    inside = inside;
    is_unknown = is;
    is_marked = get_or-set_same (replicate (length g) false) from true false (omega (arith, length-replicate (length g) false));
    passed = λ m h. elim (cases_eq m from) [
      | inl at ↦ record { there = inl (sym at); comes = inl at }
      | inr other ↦ absurd (marked-none (length g) m (sym (get_or-set_other (replicate (length g) false) from m true false other) ∙ h))
    ];
  })
