-- The info of the ReferenceLocation component (JCVM 2.2, section 6.11), by the distances of the two lists.
use Rattle.std.specs.Prelude.{◌<◌, ℕ, List, ◌++◌, length}
use Rattle.byteorder.specs.Endian.{big_bytes}
use Rattle.cap_bytes.specs.Spelling.{Stands}
use Rattle.cap_pool.specs.LocationFormat.{locations_info}

-- the distances to the indices of one byte after their number, and those to the indices of two bytes after theirs
unfoldable pub component_bytes : List ℕ → List ℕ → List ℕ
component_bytes byte byte2 = big_bytes 2 (length byte) ++ (byte ++ (big_bytes 2 (length byte2) ++ byte2))

-- the info stands for the two lists
abbrev pub ComponentsStand : Type 0
ComponentsStand = (byte byte2 : List ℕ) → length byte < 65536 → length byte2 < 65536
    → Stands locations_info (component_bytes byte byte2) (record { byte = byte; byte2 = byte2 })
