-- `DIR+`: the operands of a command on the packages in these folders.
use Rattle.std.specs.Prelude.{◌≡◌, ℕ, List}
use Rattle.cap_text.specs.Word.{AreFolderWords}

-- the words after the command's name are those of these folders, in order
abbrev pub IsOfDirs : List (List ℕ) → List (List ℕ) → Type 0
IsOfDirs words dirs = (dirs ≡ words) × AreFolderWords words
