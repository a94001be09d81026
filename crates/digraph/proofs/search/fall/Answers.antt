use Rattle.std.proofs.Common.{◌<◌, arith, All, length, subst}
use Rattle.std.proofs.lemmas.List.{take_all}
use Rattle.std.proofs.lemmas.List.Elements.{All-more}
use Rattle.digraph.specs.Ranks.{rank_of}
use Rattle.digraph.proofs.search.fall.Goals as goal

pub row-preserved : goal.row-preserved
row-preserved c =
    let inside : c.row.w-index < length c.args.row.now = omega (arith, c.row-test.true) in
    All-more (λ w. rank_of c.args.ranks.now w < c.args.rank) c.args.row.now c.row.w-index _ inside c.row.invariant c.if-rank-ranks.false

pub returns : goal.returns
returns c = λ is. subst (All (λ w. rank_of c.args.ranks.now w < c.args.rank))
    (take_all c.row.w-index c.args.row.now (omega (arith, c.row-test.false))) c.row.invariant
