-- What an info reads as: the value that it spells, or its first fault.
use Rattle.cap_bytes.proofs.Laws.{reading_where, refused_where}

pub ruleset read_or_refused = (reading_where, refused_where)
