-- Where the dispatch tables of class records stand.
use Rattle.std.specs.Prelude.{◌≡◌, ◌≤◌, ◌+◌, ◌*◌, ℕ, false, List, [], ◌∷◌, length}
use Rattle.cap_class.specs.ClassFormat.{Class, is_interface}

-- the tables of a class, which an interface has none of, stand in an info of this size
pub record TablesFit (size : ℕ) (c : Class) : Type 0 where
  pub room : is_interface c.flags ≡ false → c.offset + 10 + 2 * length c.public + 2 * length c.visible ≤ size

abbrev pub AllRooms : ℕ → List Class → Type 0
AllRooms size [] = Unit {0}
AllRooms size (c ∷ cs) = TablesFit size c × AllRooms size cs
