use Rattle.jc_ops.proofs.Entries.{rests-on-entry, fault-names-entry}
use Rattle.jc_ops.proofs.laws.entries_are_named.Goals as goal

pub returns-clause-rests : goal.returns-clause-rests
returns-clause-rests c = rests-on-entry c.args.world.now

pub returns-clause-faults : goal.returns-clause-faults
returns-clause-faults c = fault-names-entry c.args.world.now (c.concrete_decides.ensures c.args.world.now.classes c.args.world.now.methods)
