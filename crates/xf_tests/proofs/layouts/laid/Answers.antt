use Rattle.std.proofs.Common.{All, IsTrue, subst}
use Rattle.jc_decode.specs.Symbols.{IsRange}
use Rattle.xf_tests.specs.Fitting.{Covers}
use Rattle.xf_tests.proofs.layouts.laid.Goals as goal

pub lay-requires-clause-ranges : goal.lay-requires-clause-ranges
unfolding Covers
lay-requires-clause-ranges c =
    let told : IsTrue c.are_ranges.result = c.if-not-are_ranges.false in
    let covers : All (IsRange c.as_slice-items.result.now) c.as_slice.result.now = c.are_ranges.ensures told in
    subst (λ rs. All (IsRange c.args.symbols.now.items) rs) c.as_slice.ensures
    (subst (λ is. All (IsRange is) c.as_slice.result.now) c.as_slice-items.ensures covers)
