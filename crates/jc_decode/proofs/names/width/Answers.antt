use Rattle.jc_decode.proofs.NameTable.{width-at}
use Rattle.jc_decode.proofs.names.width.Goals as goal

pub returns : goal.returns
returns c = width-at c.args.op _ c.requires
