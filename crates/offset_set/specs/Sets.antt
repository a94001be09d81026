-- Sets of offsets into a component, as tests of an offset.
use Rattle.std.specs.Prelude.{◌≡◌, ℕ, ◌<◌, Bool, true, false, List, [], ◌∷◌, Option, Some, None, min, nat_lt, ◌==◌}
use Rattle.std.specs.Prelude.{◌||◌, ◌&&◌, if◌then◌else◌}

-- no offset
abbrev pub nowhere : ℕ → Bool
nowhere offset = false

-- one more offset
abbrev pub also : ℕ → (ℕ → Bool) → ℕ → Bool
also one set offset = one == offset || set offset

-- the offsets of two sets
abbrev pub either : (ℕ → Bool) → (ℕ → Bool) → ℕ → Bool
either these those offset = these offset || those offset

-- the least offset of a set above an offset, or that none is above it
abbrev pub IsNext : (ℕ → Bool) → ℕ → Option ℕ → Type 0
IsNext set offset None = (other : ℕ) → offset < other → set other ≡ false
IsNext set offset (Some next) =
    (offset < next) × (set next ≡ true) × ((other : ℕ) → offset < other → other < next → set other ≡ false)

-- ---- the offsets of a list

abbrev pub is_among : List ℕ → ℕ → Bool
is_among [] offset = false
is_among (one ∷ others) offset = one == offset || is_among others offset

-- an offset stands in a list more than once
abbrev pub is_repeated : List ℕ → ℕ → Bool
is_repeated [] offset = false
is_repeated (one ∷ others) offset = (one == offset && is_among others offset) || is_repeated others offset

-- the lesser of an offset and of another that there may be
abbrev pub lesser_of : ℕ → Option ℕ → ℕ
lesser_of offset None = offset
lesser_of offset (Some other) = min offset other

-- the least offset of a list above an offset
abbrev pub least_above : ℕ → List ℕ → Option ℕ
least_above offset [] = None
least_above offset (one ∷ others) =
    if nat_lt offset one then Some (lesser_of one (least_above offset others))
    else least_above offset others

-- the nearest other offset of a list from an offset on: itself where it is repeated, else the least above it
abbrev pub nearest : List ℕ → ℕ → Option ℕ
nearest offsets offset = if is_repeated offsets offset then Some offset else least_above offset offsets
