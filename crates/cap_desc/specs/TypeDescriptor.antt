-- A type descriptor where it stands (JCVM 2.2, section 6.13.4).
use Rattle.std.specs.Prelude.{ℕ, ◌+◌, ◌/◌, List, take}
use Rattle.cap_bytes.specs.Grammar.{Grammar, u1, piece, give, ◌>>=◌}
use Rattle.cap_bytes.specs.Spelling.{Spells, Stands}
use Rattle.cap_desc.specs.declared.type_list.TypeItem.{TypeItem}
use Rattle.cap_desc.specs.TypeFormat.{nibbles, type_items}

-- the nibbles of a type_descriptor: their count, and the bytes that hold so many
abbrev pub type_descriptor : Grammar (List ℕ)
type_descriptor = do
  nibble_count ← u1
  bytes ← piece ((nibble_count + 1) / 2)
  give (take nibble_count (nibbles bytes))

-- a well-formed type descriptor of these types stands at an offset of the bytes
pub record TypesAt (bytes : List ℕ) (offset : ℕ) (types : List TypeItem) : Type 0 where
  pub nibbles : List ℕ
  pub after : ℕ
  pub there : Spells type_descriptor bytes offset nibbles after
  -- the nibbles are the types, one after the other to their end
  pub spelled : Stands type_items nibbles types
