-- What appending in steps leaves.
use Rattle.std.proofs.Common.{◌≡◌, ℕ, List, ◌++◌, append_assoc}
use Rattle.std.proofs.Math.Seq.{take-append_seam}

pub ruleset steps = (append_assoc, take-append_seam)

-- four pieces, one after the other
pub four_pieces : (old s t u new a b c d : List ℕ) → s ≡ old ++ a → t ≡ s ++ b → u ≡ t ++ c → new ≡ u ++ d
    → new ≡ old ++ (a ++ (b ++ (c ++ d)))
four_pieces old s t u new a b c d e f g h = rw (h, g, f, e) (simp append_assoc)
