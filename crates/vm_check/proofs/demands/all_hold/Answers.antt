use Rattle.std.proofs.Common.{arith}
use Rattle.jc_rules.proofs.Demands.{Known-at}
use Rattle.vm_check.proofs.demands.all_hold.Goals as goal

pub satisfies-requires-clause-demand : goal.satisfies-requires-clause-demand
satisfies-requires-clause-demand g c = Known-at c.args.world.now.classes c.args.demands.now c.demands.demand-index _ (omega arith) c.requires.demands
