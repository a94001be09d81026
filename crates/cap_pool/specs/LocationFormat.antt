-- The ReferenceLocation component (JCVM 2.2, section 6.11): the distances of the places in the info of
-- the Method component that hold an index into the pool.
use Rattle.std.specs.Prelude.{ℕ, List}
use Rattle.cap_bytes.specs.Grammar.{Grammar, give, piece, finish, u2, ◌>>=◌}

-- the distances to the indices of one byte, and to those of two bytes
pub record LocationItems : Type 0 where
  pub byte : List ℕ
  pub byte2 : List ℕ

abbrev pub locations_info : Grammar LocationItems
locations_info = do
  byte_count ← u2
  byte ← piece byte_count
  byte2_count ← u2
  byte2 ← piece byte2_count
  end ← finish
  give (record { byte = byte; byte2 = byte2 })
