use Rattle.std.proofs.Common.{arith}
use Rattle.jc_base.proofs.Climbs.{chain-length, chain-not_empty}
use Rattle.link_tests.proofs.counting.depth.Goals as goal

pub overflow_add-count : goal.overflow_add-count
overflow_add-count c = omega (arith, chain-length c.args.classes.now c.args.class, chain-not_empty c.args.classes.now c.in-Some.parent, c.in-Some.ensures.few)
