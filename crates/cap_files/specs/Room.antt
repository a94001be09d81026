-- The room of a folder in memory.
use Rattle.std.specs.Prelude.{ℕ, ◌+◌, Bool, ◌&&◌, nat_le, List, length, drop, sum_by}
use Rattle.std.specs.FinMap as map
use Rattle.cap_files.specs.Folder.{Parts}

-- how many bytes a part takes: its key is its number and its folder's word, of which the word counts, and its bytes count
abbrev pub size_of : List ℕ × List ℕ → ℕ
size_of (key, bytes) = length (drop 1 key) + length bytes

-- how many bytes all parts take
abbrev pub bytes_taken : Parts → ℕ
bytes_taken parts = sum_by size_of (map.entries parts)

-- how many parts there may be, and how many bytes they may take
pub record Room : Type 0 where
  pub parts : ℕ
  pub bytes : ℕ

-- the room suffices for the parts
abbrev pub suffices : Room → Parts → Bool
suffices room parts = nat_le (map.len parts) room.parts && nat_le (bytes_taken parts) room.bytes
