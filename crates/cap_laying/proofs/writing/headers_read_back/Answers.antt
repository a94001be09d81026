use Rattle.cap_laying.proofs.HeaderLaws.{header_back}
use Rattle.cap_laying.proofs.writing.headers_read_back.Goals as goal

pub returns : goal.returns
returns c = header_back
