-- Lists of folder words, whose words are visited one by one.
use Rattle.std.proofs.Common.{arith}
use Rattle.std.proofs.Common.{◌≡◌, ℕ, ◌<◌, Bool, IsTrue, ◌↔◌, MatchBool, List, ◌∷◌, length}
use Rattle.std.proofs.lemmas.Bool.{false≢true}
use Rattle.std.specs.List.{AllWithin, HoldsAt}
use Rattle.std.proofs.lemmas.Iterator.Search.{true_from_All}
use Rattle.cap_text.specs.Word.{IsFolderWord, AreFolderWords}

-- the first names a folder, and a visit of the others tells whether they do
pub tells_folders : (told : Bool) (words : List (List ℕ)) (first : List ℕ) (rest : List (List ℕ)) → words ≡ first ∷ rest → IsFolderWord first
    → MatchBool told (AllWithin IsFolderWord rest 0 (length rest)) ((k : ℕ) × (k < length rest) × HoldsAt (λ w. IsFolderWord w → ⊥) rest k)
    → IsTrue told ↔ AreFolderWords words
tells_folders x words first rest are names visit = grind (arith, false≢true, true_from_All)
