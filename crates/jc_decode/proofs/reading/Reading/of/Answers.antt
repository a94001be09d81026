use Rattle.jc_decode.proofs.Readings.{reads-at}
use Rattle.jc_decode.proofs.reading.Reading.of.Goals as goal

pub returns : goal.returns
returns c = reads-at c.args.op _ c.ranges.op.fits
