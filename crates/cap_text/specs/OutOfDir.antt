-- `OUT DIR`: the operands of a command that stores in the first folder what it makes of the package in the second.
use Rattle.std.specs.Prelude.{◌≡◌, ℕ, List, [], ◌∷◌}
use Rattle.cap_text.specs.declared.operands.OutOfDir.{OutOfDir}
use Rattle.cap_text.specs.Word.{IsFolderWord}

-- the word of the folder in which is stored, and that of the package's folder
pub record OutOfDirRequest : Type 0 where
  pub out : List ℕ
  pub dir : List ℕ

-- the words after the command's name ask for this
abbrev pub IsOutOfDir : List (List ℕ) → OutOfDirRequest → Type 0
IsOutOfDir (out ∷ dir ∷ []) o = (o.out ≡ out) × (o.dir ≡ dir) × IsFolderWord out × IsFolderWord dir
IsOutOfDir _ o = ⊥

-- what a command that was read asks for
abbrev pub out_of_dir_request : OutOfDir → OutOfDirRequest
out_of_dir_request o = record { out = o.out.now; dir = o.dir.now }
