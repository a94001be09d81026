-- No bit is set.
use Rattle.offset_set.proofs.BitLaws.{no-bits}
use Rattle.offset_set.proofs.offsets.Offsets.none.Goals as goal

pub returns : goal.returns
returns c = no-bits 1024
