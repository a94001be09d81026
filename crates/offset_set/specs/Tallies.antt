-- What a tally knows of the offsets that were counted: those that were met, and those that were met more than once.
use Rattle.std.specs.Prelude.{◌≡◌, ℕ, Bool, List, Option, Some, MatchBool, fold, not, ◌==◌, ◌||◌, ◌&&◌}
use Rattle.offset_set.specs.declared.tally.Tally.{Tally}
use Rattle.offset_set.specs.Bits.{holds}
use Rattle.offset_set.specs.Sets.{nowhere, also, IsNext, is_among, is_repeated}

pub record Tallied : Type 0 where
  pub met : ℕ → Bool
  pub repeated : ℕ → Bool

-- a tally as what it knows
abbrev pub tallied : Tally → Tallied
tallied t = record { met = holds t.met; repeated = holds t.repeated }

-- no offset was counted
abbrev pub none_counted : Tallied
none_counted = record { met = nowhere; repeated = nowhere }

-- the offsets of a list were counted
abbrev pub tally_of : List ℕ → Tallied
tally_of offsets = record { met = is_among offsets; repeated = is_repeated offsets }

-- one more offset is counted
unfoldable pub with_one : Tallied → ℕ → Tallied
with_one t one = record { met = also one t.met; repeated = λ offset. (one == offset && t.met offset) || t.repeated offset }

-- the offsets of a list are counted one after the other
abbrev pub with_all : Tallied → List ℕ → Tallied
with_all = fold with_one

-- an offset was counted once
abbrev pub once : Tallied → ℕ → Bool
once t offset = t.met offset && not (t.repeated offset)

-- the nearest other offset that was counted, from an offset on: itself where it was counted more than once, else the next
abbrev pub IsNearest : Tallied → ℕ → Option ℕ → Type 0
IsNearest t offset near = MatchBool (t.repeated offset) (near ≡ Some offset) (IsNext t.met offset near)
