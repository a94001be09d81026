use Rattle.law_checked.proofs.OneByOne.{checked-folders-never-fault}
use Rattle.law_checked.proofs.folders.checked_folders_never_fault.Goals as goal

pub returns : goal.returns
returns c = checked-folders-never-fault c.args.world.now c.checked_packages_never_fault.ensures
