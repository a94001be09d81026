-- The bits that the table names are 12.
use Rattle.bitflags.proofs.OnLiterals.{bitflags_on_literals}
use Rattle.cap_method.proofs.read_methods.MethodFlags.of.Goals as goal

pub returns : goal.returns
unfolding bitflags_on_literals
returns c = c.from_bits_truncate.ensures tt
