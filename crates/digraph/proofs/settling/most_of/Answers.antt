use Rattle.std.proofs.Common.{◌+◌, ◌<◌, length, take, get_or, max, arith, sym, subst, List, ℕ, ◌∙◌}
use Rattle.std.specs.Prelude.{None}
use Rattle.std.proofs.lemmas.List.{take_more, get_or_read}
use Rattle.digraph.specs.Settled.{IsMostOf}
use Rattle.digraph.proofs.Sums.{most-more}
use Rattle.digraph.proofs.settling.most_of.Goals as goal

pub row-preserved : goal.row-preserved
row-preserved c =
    let row = c.args.row.now in
    let known = c.args.known.now.items in
    let i = c.row.v-index in
    let inside : i < length row = omega (arith, c.row-test.true) in
    let there : get_or row i 0 < length known = c.requires i 0 inside in
    let is = sym (get_or_read known (get_or row i 0) _ there c.index.ensures None) ∙ c.in-Some.is in
    subst (λ n. IsMostOf known (take (i + 1) row) n) (sym c.max-best.ensures)
    (subst (λ (vs : List ℕ). IsMostOf known vs (max c.row.best c.in-Some.sum)) (sym (take_more row i 0 inside))
    (most-more known (take i row) (get_or row i 0) c.row.best c.in-Some.sum c.row.invariant is))
