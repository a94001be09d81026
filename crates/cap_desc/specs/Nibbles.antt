-- Nibbles as a value of the program.
use Rattle.std.specs.Prelude.{ℕ, List, take}
use Rattle.cap_desc.specs.declared.nibbles.Nibbles.{Nibbles}
use Rattle.cap_desc.specs.TypeFormat.{nibbles}

abbrev pub nibbles_in : Nibbles → List ℕ
nibbles_in x = take x.count (nibbles x.bytes.bytes.now)
