use Rattle.std.proofs.Common.{arith}
use Rattle.xf_homes.proofs.walk.HomeWalk.keep_place.Goals as goal

pub keep_cells-requires : goal.keep_cells-requires
keep_cells-requires c = omega (arith, c.registers.ensures.few, c.stack-stack.ensures.few)
