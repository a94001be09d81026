use Rattle.law_added.proofs.Checked.{checked-never-fault}
use Rattle.law_added.proofs.added.checked_packages_never_fault.Goals as goal

pub returns : goal.returns
returns c = checked-never-fault c.args.world.now c.typed_code_never_fails.ensures.fault_free
