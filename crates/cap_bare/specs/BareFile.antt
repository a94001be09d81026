-- What the record of a bare method says of its file.
use Rattle.std.specs.Prelude.{◌≤◌, length}
use Rattle.cap_bare.specs.declared.method.BareMethod.{BareMethod}
use Rattle.cap_bare.specs.Typing.{IsCompact}
use Rattle.cap_bare.specs.MethodFile.{MethodFile}

abbrev pub file : BareMethod → MethodFile
file m = record { bare = m.bare; code = m.code.bytes.now }

-- it may be verified: its code is of 1 to 32,767 bytes, and its header is compact
pub record IsVerifiable (m : BareMethod) : Type 0 where
  pub filled : 1 ≤ length m.code.bytes.now
  pub short : length m.code.bytes.now ≤ 32767
  pub compact : IsCompact m.bare
