use Rattle.cap_laying.proofs.DirectoryLaws.{directories_stand}
use Rattle.cap_laying.proofs.writing.directories_stand.Goals as goal

pub returns : goal.returns
returns c = directories_stand
