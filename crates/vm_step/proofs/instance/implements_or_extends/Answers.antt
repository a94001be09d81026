use Rattle.vm_step.proofs.Search.{left-none}
use Rattle.vm_step.proofs.instance.implements_or_extends.Goals as goal

pub extends-requires-clause-left : goal.extends-requires-clause-left
extends-requires-clause-left c = left-none c.args.world.now.classes c.args.above 4096

pub implements-requires-clause-left : goal.implements-requires-clause-left
implements-requires-clause-left c = left-none c.args.world.now.classes c.args.above 4096
