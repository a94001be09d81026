-- Numbers in a list of bytes. The format is big-endian (JCVM 2.2, chapter 6).
use Rattle.std.specs.Prelude.{ℕ, ◌+◌, List, length, drop, Option, Some, None, nat_le, if◌then◌else◌}
use Rattle.byteorder.specs.Endian.{big_number}

-- the big-endian number of w bytes at a place, where the bytes reach
abbrev pub number_at : ℕ → ℕ → List ℕ → Option ℕ
number_at w at xs = if nat_le (at + w) (length xs) then Some (big_number w (drop at xs)) else None
