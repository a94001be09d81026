-- `DIR`: the operand of a command on the package in this folder.
use Rattle.std.specs.Prelude.{◌≡◌, ℕ, List, [], ◌∷◌}
use Rattle.cap_text.specs.Word.{IsFolderWord}

-- the words after the command's name are this folder's
abbrev pub IsOfDir : List (List ℕ) → List ℕ → Type 0
IsOfDir (word ∷ []) dir = (dir ≡ word) × IsFolderWord word
IsOfDir _ dir = ⊥
