-- `OUT DIR+`: the operands of a command that stores in the first folder what it makes of the last of the packages in the others.
use Rattle.std.specs.Prelude.{◌≡◌, ℕ, List, [], ◌∷◌}
use Rattle.cap_files.specs.WordsLeft.{words_left}
use Rattle.cap_text.specs.declared.operands.OutOfDirs.{OutOfDirs}
use Rattle.cap_text.specs.Word.{IsFolderWord, AreFolderWords}

-- the word of the folder in which is stored, and those of the packages' folders, in order
pub record OutOfDirsRequest : Type 0 where
  pub out : List ℕ
  pub dirs : List (List ℕ)

-- the words after the command's name ask for this
abbrev pub IsOutOfDirs : List (List ℕ) → OutOfDirsRequest → Type 0
IsOutOfDirs [] o = ⊥
IsOutOfDirs (out ∷ dirs) o = (o.out ≡ out) × (o.dirs ≡ dirs) × IsFolderWord out × AreFolderWords dirs

-- what a command that was read asks for
abbrev pub out_of_dirs_request : OutOfDirs → OutOfDirsRequest
out_of_dirs_request o = record { out = o.out.now; dirs = words_left o.dirs }
