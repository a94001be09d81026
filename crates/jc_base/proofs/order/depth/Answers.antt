use Rattle.std.proofs.Common.{arith}
use Rattle.jc_base.proofs.Climbs.{chain-length, chain-not_empty}
use Rattle.jc_base.proofs.order.depth.Goals as goal

pub overflow_add-n : goal.overflow_add-n
overflow_add-n c = omega (arith, chain-length c.args.classes.now c.args.c, chain-not_empty c.args.classes.now c.in-Some.p, c.in-Some.ensures.few)
