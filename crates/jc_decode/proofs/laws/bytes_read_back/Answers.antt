use Rattle.jc_decode.proofs.OneInstruction.{BytesReadBack-all}
use Rattle.jc_decode.proofs.laws.bytes_read_back.Goals as goal

pub returns : goal.returns
returns c = BytesReadBack-all c.args.bytes.now c.are_bytes.ensures
