use Rattle.std.proofs.Common.{◌≡◌, ◌<◌, length, ap, sym, ◌∙◌, arith}
use Rattle.std.specs.Prelude.{None, is_some, not}
use Rattle.std.proofs.lemmas.List.{get_or_read}
use Rattle.digraph.specs.Settled.{known_at}
use Rattle.digraph.proofs.Sums.{not-some, known-most}
use Rattle.digraph.proofs.Cycling.{comes-again}
use Rattle.digraph.proofs.settling.greatest.Goals as goal

pub returns-then-not-settle_one-clause-answer : goal.returns-then-not-settle_one-clause-answer
returns-then-not-settle_one-clause-answer c =
    let known = c.passes.known.items in
    let from = c.args.from in
    let there : from < length known = omega (arith, c.requires.from, c.passes.invariant.lengths) in
    let held = get_or_read known from _ there c.index.ensures None in
    let none : known_at known from ≡ None = not-some (known_at known from) (ap is_some (sym held) ∙ (c.is_none.ensures ∙ ap not c.passes-test.true)) in
    comes-again c.args.graph.now known from c.len.ensures.graph c.if-not-settle_one.ensures.settles.1 c.requires.from none

pub returns-clause-most : goal.returns-clause-most
returns-clause-most c =
    let known = c.passes.known.items in
    let from = c.args.from in
    let there : from < length known = omega (arith, c.requires.from, c.passes.invariant.lengths) in
    let held = get_or_read known from _ there c.index-2.ensures None in
    known-most c.args.graph.now c.args.weights.now known from c.index-2.result.now c.passes.invariant (sym held)
