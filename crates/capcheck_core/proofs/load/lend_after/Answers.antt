-- the next part is not there yet, and is lent after those so far
use Rattle.capcheck_core.proofs.Loads.{next_new, next_lent}
use Rattle.capcheck_core.proofs.load.lend_after.Goals as goal

pub push-requires : goal.push-requires
push-requires c = next_new c.parts.all c.args.parts c.args.more.now c.parts.n _ c.at.ensures c.parts.invariant c.requires

pub parts-preserved : goal.parts-preserved
parts-preserved c = next_lent c.parts.all c.args.parts c.args.more.now c.push.new.self c.parts.n _ c.at.ensures c.in_ok-push.ensures.ok c.parts.invariant
