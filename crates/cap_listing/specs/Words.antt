-- Lines of words, one space apart, each line ended by a line feed.
use Rattle.std.specs.Prelude.{◌≡◌, ◌≢◌, ℕ, ◌<◌, List, [], ◌∷◌, ◌++◌, ⊤}

-- the word is of ASCII, and none of its bytes is a space or a control character
abbrev pub IsPlain : List ℕ → Type 0
IsPlain [] = ⊤
IsPlain (b ∷ bs) = ((32 < b) × (b < 127)) × IsPlain bs

abbrev pub ArePlain : List (List ℕ) → Type 0
ArePlain [] = ⊤
ArePlain (w ∷ ws) = IsPlain w × ArePlain ws

-- none of the bytes has this value
abbrev pub HasNone : ℕ → List ℕ → Type 0
HasNone stop [] = ⊤
HasNone stop (b ∷ bs) = (b ≢ stop) × HasNone stop bs

-- the bytes before the first of this value, and those after it
pub record IsCut (stop : ℕ) (bytes before after : List ℕ) : Type 0 where
  pub is : bytes ≡ before ++ stop ∷ after
  pub free : HasNone stop before

-- words, each after a space
abbrev pub spaced : List (List ℕ) → List ℕ
spaced [] = []
spaced (w ∷ ws) = 32 ∷ (w ++ spaced ws)

-- words, one space apart
abbrev pub joined : List (List ℕ) → List ℕ
joined [] = []
joined (w ∷ ws) = w ++ spaced ws

-- a line of these words
abbrev pub line : List (List ℕ) → List ℕ
line ws = joined ws ++ 10 ∷ []

-- a text of lines, each of these words
abbrev pub text_of_lines : List (List (List ℕ)) → List ℕ
text_of_lines [] = []
text_of_lines (ws ∷ lines) = line ws ++ text_of_lines lines
