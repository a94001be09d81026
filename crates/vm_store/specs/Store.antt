-- What a store of a machine's state keeps through every call.
use Rattle.std.specs.Prelude.{◌≡◌, ℕ, List, Option, IfSome}
use Rattle.jc_base.specs.World.{Linked}

-- the world of whose methods the store keeps frames, where its layout rests on one, and the places
-- of memory that it was lent, by the names of the loans
pub record Fixed : Type 0 where
  pub world : Option Linked
  pub loans : List ℕ

-- the store may keep frames of the methods of a world
abbrev pub IsOf : Fixed → Linked → Type 0
IsOf fixed world = IfSome fixed.world (λ w. w ≡ world)
