-- Parts that are put by rising tag.
use Rattle.std.specs.Prelude.{◌≡◌, ◌≤◌, ◌<◌, ◌+◌, ℕ, List, [], ◌∷◌, ◌++◌, Option, Some, None}
use Rattle.cap_components.specs.Parts.{Lent, held}

-- the tags rise from one number to below another
abbrev pub IsRising : ℕ → List Lent → ℕ → Type 0
IsRising low [] high = low ≤ high
IsRising low (l ∷ ls) high = (low ≤ l.part) × IsRising (l.part + 1) ls high

abbrev pub lents : ℕ → Option (List ℕ) → List Lent
lents tag None = []
lents tag (Some file) = record { part = tag; bytes = file } ∷ []

-- a file that is such is put, if there is one
pub record PutsFile (Is : Option (List ℕ) → Type 0) (tag : ℕ) (old new : List Lent) : Type 0 where
  pub file : Option (List ℕ)
  pub is : Is file
  pub put : new ≡ old ++ lents tag file

-- the file with each tag below a number is such, and there is no other
pub record AreFiled (Is : ℕ → Option (List ℕ) → Type 0) (high : ℕ) (parts : List Lent) : Type 0 where
  pub each : (tag : ℕ) → tag < high → Is tag (held parts tag)
  pub none : (tag : ℕ) → high ≤ tag → held parts tag ≡ None
  pub rising : IsRising 0 parts high
