use Rattle.law_stored.proofs.StoredIsRead.{stored-is-read}
use Rattle.law_stored.proofs.stored.stored_is_read.Goals as goal

pub returns : goal.returns
returns c = stored-is-read
