use Rattle.vm_run.proofs.entry.starts_erase.Goals as goal
use Rattle.vm_step.proofs.Erased.{entry-erased}

pub returns : goal.returns
returns c = entry-erased
