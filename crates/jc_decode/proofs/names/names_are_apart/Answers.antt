use Rattle.jc_decode.proofs.NameTable.{names-apart}
use Rattle.jc_decode.proofs.names.names_are_apart.Goals as goal

pub returns : goal.returns
returns c = names-apart
