-- One more bit is set.
use Rattle.std.proofs.Common.{arith}
use Rattle.offset_set.proofs.BitLaws.{one-more}
use Rattle.offset_set.proofs.offsets.Offsets.insert.Goals as goal

pub returns : goal.returns
returns c = one-more c.args.self.now.words c.args.offset (omega arith)
