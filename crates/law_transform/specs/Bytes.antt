-- That code is made of bytes, which the lists of a world don't say.
use Rattle.std.specs.Prelude.{All}
use Rattle.jc_base.specs.World.{Linked, code_of}
use Rattle.cap_bytes.specs.Bytes.{AreBytes}

-- the code of each method of a world
abbrev pub CodesAreBytes : Linked → Type 0
CodesAreBytes w = All (λ r. AreBytes (code_of w.infos r)) w.methods
