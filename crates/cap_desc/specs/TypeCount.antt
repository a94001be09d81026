-- How many types nibbles spell.
use Rattle.std.specs.Prelude.{ℕ, ◌≡◌, List, IsTrue, Some}
use Rattle.cap_desc.specs.TypeFormat.{types_in, gives_types, given_types}

-- the nibbles spell n types, and no more
pub record SpellsTypes (ns : List ℕ) (n : ℕ) : Type 0 where
  pub known : IsTrue (gives_types n ns 0)
  pub types : types_in ns ≡ Some (given_types n ns 0)
