use Rattle.law_stored.proofs.PackedIsInstalled.{packed-is-installed}
use Rattle.law_stored.proofs.stored.packed_is_installed.Goals as goal

pub returns : goal.returns
returns c = packed-is-installed
