-- The edits of items that stand one after the other.
use Rattle.std.specs.Prelude.{◌+◌, ℕ, List, [], ◌∷◌, ◌++◌}
use Rattle.cap_bytes.specs.Edit.{Edit}

-- the edits of each item, which begins where the one before it ends
abbrev pub along : {X : Type 0} → (ℕ → X → List Edit) → (X → ℕ) → ℕ → List X → List Edit
along item width at [] = []
along item width at (x ∷ xs) = item at x ++ along item width (at + width x) xs

-- the edit of a number of two bytes
abbrev pub number_edits : (ℕ → ℕ) → ℕ → ℕ → List Edit
number_edits to at n = record { at = at; number = to n } ∷ []

abbrev pub two_bytes : ℕ → ℕ
two_bytes n = 2

-- the edits of a table of such numbers
abbrev pub table_edits : (ℕ → ℕ) → ℕ → List ℕ → List Edit
table_edits to at ns = along (number_edits to) two_bytes at ns
