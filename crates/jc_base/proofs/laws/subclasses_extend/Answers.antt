use Rattle.jc_base.proofs.Objects.{classes-are_objects, instances-extend}
use Rattle.jc_base.proofs.laws.subclasses_extend.Goals as goal

pub returns-clause-objects : goal.returns-clause-objects
returns-clause-objects c = classes-are_objects c.args.classes.now c.records.ensures.chains

pub returns-clause-cells : goal.returns-clause-cells
returns-clause-cells c = instances-extend c.args.classes.now c.records.ensures.chains
