use Rattle.cap_laying.proofs.InfoLaws.{info_written}
use Rattle.cap_laying.proofs.writing.infos_are_written.Goals as goal

pub returns : goal.returns
returns c = info_written
