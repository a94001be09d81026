use Rattle.vm_store.specs.Cells.{tagged}
use Rattle.vm_run.proofs.Sizes.{sized}
use Rattle.vm_run.proofs.entry.starts_are_sized.Goals as goal

pub returns : goal.returns
returns c = sized tagged c.args.world.now c.classes-facts.ensures.links
