use Rattle.std.proofs.Common.{arith}
use Rattle.jc_base.proofs.Lists.{statics_fit}
use Rattle.jc_base.proofs.world.World.static_count.Goals as goal

pub overflow_cast-result : goal.overflow_cast-result
overflow_cast-result c = omega (arith, statics_fit c.self.inside.statics)

pub returns-clause-most : goal.returns-clause-most
returns-clause-most c = omega (arith, statics_fit c.self.inside.statics)
