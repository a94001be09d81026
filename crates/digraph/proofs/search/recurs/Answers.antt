use Rattle.std.proofs.Common.{rules}
use Rattle.digraph.specs.Ranks.{AllFall}
use Rattle.digraph.proofs.Ranking.{falls-on-no-cycle}
use Rattle.digraph.proofs.search.recurs.Goals as goal

pub returns-then-fall : goal.returns-then-fall
returns-then-fall c = λ r.
    let falls : AllFall c.args.graph.now c.args.ranks.now c.args.v = search rules in
    falls-on-no-cycle c.args.graph.now c.args.ranks.now c.args.v (c.requires.ranked c.if-ranked.true) falls r.again
