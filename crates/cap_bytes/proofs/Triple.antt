-- A list of three bytes, byte by byte.
use Rattle.std.proofs.Common.{◌≡◌, ℕ, List, [], ◌∷◌, length, get_or, refl, arith}

pub all_three : (bytes : List ℕ) → length bytes ≡ 3 → get_or bytes 0 0 ∷ get_or bytes 1 0 ∷ get_or bytes 2 0 ∷ [] ≡ bytes
all_three [] e = absurd (omega arith)
all_three (a ∷ []) e = absurd (omega arith)
all_three (a ∷ b ∷ []) e = absurd (omega arith)
all_three (a ∷ b ∷ c ∷ []) e = refl
all_three (a ∷ b ∷ c ∷ d ∷ bytes) e = absurd (omega arith)
