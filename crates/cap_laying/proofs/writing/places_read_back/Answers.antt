use Rattle.cap_laying.proofs.Tellings.{read_back}
use Rattle.cap_laying.proofs.writing.places_read_back.Goals as goal

pub returns : goal.returns
returns c = read_back
