-- Numbers of two bytes that are written over where they stand. The format is big-endian (JCVM 2.2, chapter 6).
use Rattle.std.specs.Prelude.{◌≡◌, ◌≤◌, ◌<◌, ◌+◌, ℕ, List, [], ◌∷◌, ◌++◌, take, drop, refl}
use Rattle.byteorder.specs.Endian.{big_bytes}

-- the number that is to stand at a place
pub record Edit : Type 0 where
  pub at : ℕ
  pub number : ℕ

-- the bytes with it in place of the two that stand there
unfoldable pub patched : Edit → List ℕ → List ℕ
patched e bytes = take e.at bytes ++ (big_bytes 2 e.number ++ drop (e.at + 2) bytes)

-- with several, one after the other
abbrev pub patched_all : List Edit → List ℕ → List ℕ
patched_all [] bytes = bytes
patched_all (e ∷ es) bytes = patched_all es (patched e bytes)

-- the places rise from one place to another, and each number ends before the next begins
abbrev pub AreInside : List Edit → ℕ → ℕ → Type 0
AreInside [] low high = low ≤ high
AreInside (e ∷ es) low high = (low ≤ e.at) × AreInside es (e.at + 2) high

-- each number has two bytes
abbrev pub FitBytes : List Edit → Type 0
FitBytes [] = Unit {0}
FitBytes (e ∷ es) = (e.number < 65536) × FitBytes es

-- two numbers in six bytes
two_numbers : patched_all (record { at = 1; number = 258 } ∷ record { at = 3; number = 7 } ∷ [])
    (9 ∷ 0 ∷ 0 ∷ 0 ∷ 0 ∷ 8 ∷ [])
    ≡ 9 ∷ 1 ∷ 2 ∷ 0 ∷ 7 ∷ 8 ∷ []
unfolding patched
two_numbers = refl
