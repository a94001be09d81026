-- The bits that the table names are 14.
use Rattle.bitflags.proofs.OnLiterals.{bitflags_on_literals}
use Rattle.cap_class.proofs.class_info.ClassFlags.of.Goals as goal

pub returns : goal.returns
unfolding bitflags_on_literals
returns c = c.from_bits_truncate.ensures tt
