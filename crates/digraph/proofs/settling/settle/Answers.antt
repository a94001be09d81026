use Rattle.std.proofs.Common.{◌≡◌, ◌<◌, ◌≤◌, ◌+◌, length, sum, ap, sym, ◌∙◌, subst, arith, List, ℕ}
use Rattle.std.specs.Prelude.{None, is_some}
use Rattle.std.proofs.lemmas.List.{get_or_read}
use Rattle.digraph.specs.Graph.{weight_of}
use Rattle.digraph.specs.Settled.{known_at, IsMostOf}
use Rattle.digraph.proofs.Sums.{not-some, sum-fits, table-more}
use Rattle.digraph.proofs.settling.settle.Goals as goal

pub overflow_add-sum : goal.overflow_add-sum
overflow_add-sum c =
    let g = c.args.graph.now in
    let known = c.args.known.now.items in
    let v = c.args.v in
    let there : v < length known = omega (arith, c.requires.vertex, c.requires.table.lengths) in
    let held = get_or_read known v _ there c.index.ensures None in
    let none : known_at known v ≡ None = not-some (known_at known v) (ap is_some (sym held) ∙ (sym c.is_some.ensures ∙ c.if-is_some.false)) in
    let most = subst (λ (row : List ℕ). IsMostOf known row c.in-Some.best) c.row.ensures.is c.in-Some.ensures in
    let fits : weight_of c.args.weights.now v + c.in-Some.best ≤ sum c.args.weights.now =
    sum-fits g c.args.weights.now known v c.in-Some.best c.requires.table c.requires.vertex c.requires.weights none most in
    omega (arith, fits, c.requires.small)

pub returns-clause-table : goal.returns-clause-table
returns-clause-table c =
    let known = c.args.known.now.items in
    let v = c.args.v in
    let there : v < length known = omega (arith, c.requires.vertex, c.requires.table.lengths) in
    let held = get_or_read known v _ there c.index.ensures None in
    let none : known_at known v ≡ None = not-some (known_at known v) (ap is_some (sym held) ∙ (sym c.is_some.ensures ∙ c.if-is_some.false)) in
    table-more c.args.graph.now c.args.weights.now known v c.in-Some.best c.requires.table c.requires.vertex c.requires.weights none
    (subst (λ (row : List ℕ). IsMostOf known row c.in-Some.best) c.row.ensures.is c.in-Some.ensures)
