-- Numbers of two bytes, one after another, the high byte first: the entries of a target index.
use Rattle.std.specs.Prelude.{ℕ, ◌+◌, ◌*◌, List, [], ◌∷◌, ◌≡◌, ◌<◌, Some, slice_get}

-- the words that bytes spell, two bytes each, the high one first; an odd last byte is left out
abbrev pub words_of_bytes : List ℕ → List ℕ
words_of_bytes [] = []
words_of_bytes (high ∷ []) = []
words_of_bytes (high ∷ low ∷ bytes) = (high * 256 + low) ∷ words_of_bytes bytes

-- each entry is above the one before it
abbrev pub IsAscending : List ℕ → Type 0
IsAscending index = (k p q : ℕ) → slice_get index k ≡ Some p → slice_get index (k + 1) ≡ Some q → p < q
