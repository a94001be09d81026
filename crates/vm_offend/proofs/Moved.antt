-- What holds of the memory of a store holds of the slices that were lent for it.
use Rattle.std.proofs.Common.{arith}
use Rattle.std.proofs.Common.{◌≡◌, ℕ, List}

pub moved : (P : List ℕ → List ℕ → List ℕ → Type 0) (x y z a b c : List ℕ) → x ≡ a → y ≡ b → z ≡ c → P a b c → P x y z
moved P x y z a b c ea eb ec holds = grind (arith)
