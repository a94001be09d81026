-- Places told by their distances (JCVM 2.2, section 6.11): each from the one before it, the first from 0. A distance is
-- as many bytes of 255 as it has whole 255s, and a byte of what is left.
use Rattle.std.specs.Prelude.{◌≡◌, ◌<◌, ◌+◌, ◌-◌, ◌/◌, ◌%◌, ℕ, List, [], ◌∷◌, ◌++◌, replicate}
use Rattle.std.specs.Prelude.{◌==◌, if◌then◌else◌, refl}

abbrev pub distance_bytes : ℕ → List ℕ
distance_bytes d = replicate (d / 255) 255 ++ ((d % 255) ∷ [])

-- the distances of places, after a place that was told last
abbrev pub distances : ℕ → List ℕ → List ℕ
distances last [] = []
distances last (p ∷ ps) = distance_bytes (p - last) ++ distances p ps

-- the last of the places
abbrev pub last_of : ℕ → List ℕ → ℕ
last_of last [] = last
last_of last (p ∷ ps) = last_of p ps

-- the places rise, and the first is after the last one
abbrev pub Rise : ℕ → List ℕ → Type 0
Rise last [] = Unit {0}
Rise last (p ∷ ps) = (last < p) × Rise p ps

-- the places that bytes tell
abbrev pub places_in : ℕ → List ℕ → List ℕ
places_in last [] = []
places_in last (b ∷ bs) = if b == 255 then places_in (last + 255) bs else ((last + b) ∷ places_in (last + b) bs)

-- 7, and 255 and 263 after it
three : distances 0 (7 ∷ 262 ∷ 525 ∷ []) ≡ 7 ∷ 255 ∷ 0 ∷ 255 ∷ 8 ∷ []
three = refl

back : places_in 0 (7 ∷ 255 ∷ 0 ∷ 255 ∷ 8 ∷ []) ≡ 7 ∷ 262 ∷ 525 ∷ []
back = refl
