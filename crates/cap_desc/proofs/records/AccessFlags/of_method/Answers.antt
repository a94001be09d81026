-- The bits that the table names are 0xDF.
use Rattle.bitflags.proofs.OnLiterals.{bitflags_on_literals}
use Rattle.cap_desc.proofs.records.AccessFlags.of_method.Goals as goal

pub returns : goal.returns
unfolding bitflags_on_literals
returns c = c.from_bits_truncate.ensures tt
