-- `gen SEED OUT`: generates a package from a number, and stores it in the form that a verifier on the card accepts.
use Rattle.std.specs.Prelude.{◌≡◌, ℕ, ℤ, List, [], ◌∷◌, codes, decimal}
use Rattle.std.specs.Fmt.{signed_decimal}
use Rattle.std.specs.List.{concat}
use Rattle.cap_text.specs.declared.generate.Generate.{Generate}
use Rattle.cap_text.specs.Word.{IsNumberWord, IsFolderWord}

-- the number, and the word of the folder in which is stored
pub record GenerateRequest : Type 0 where
  pub seed : ℕ
  pub out : List ℕ

-- the words after the command's name ask for this
abbrev pub IsGenerate : List (List ℕ) → GenerateRequest → Type 0
IsGenerate (seed ∷ out ∷ []) g = IsNumberWord seed g.seed × (g.out ≡ out) × IsFolderWord out
IsGenerate _ g = ⊥

-- what a command that was read asks for
abbrev pub generate_request : Generate → GenerateRequest
generate_request g = record { seed = g.seed; out = g.out.now }

-- the text: the sizes of the two Method components in bytes, and the sum of what the methods return
abbrev pub generate_text : ℕ → ℕ → ℤ → List ℕ
generate_text generated transformed sum =
    concat
    (codes "generated 200 methods " ∷ decimal generated ∷ codes " bytes\ntransformed 200 methods " ∷ decimal transformed
    ∷ codes " bytes\naccepted 200 methods\nsum " ∷ signed_decimal sum ∷ codes "\n" ∷ [])
