-- Bytes in memory with a room.
use Rattle.std.specs.Prelude.{ℕ, ◌+◌, Bool, nat_le, List, [], ◌++◌, length, if◌then◌else◌}

-- the bytes, and how many there may be
pub record Taped : Type 0 where
  pub bytes : List ℕ
  pub most : ℕ

-- no bytes yet
abbrev pub empty_tape : ℕ → Taped
empty_tape most = record { bytes = []; most = most }

-- whether the room suffices for a piece more
abbrev pub has_room : Taped → List ℕ → Bool
has_room tape piece = nat_le (length tape.bytes + length piece) tape.most

-- the piece after the bytes where the room suffices, and else nothing more
abbrev pub appended : Taped → List ℕ → Taped
appended tape piece = if has_room tape piece then record tape { bytes = tape.bytes ++ piece } else tape
