-- Where the parts of packages are: in the files of their components, or in a Load file.
use Rattle.std.specs.Prelude.{ℕ, List, [], ◌∷◌}
use Rattle.capcheck_core.specs.declared.load.Source.{Source}
use Rattle.capcheck_core.specs.declared.load.Source.TheVariants.{Components, LoadFile}

-- a folder, and how the parts of its package are had
pub record Place : Type 0 where
  pub dir : List ℕ
  pub source : Source

-- each component from a file of its own
abbrev pub in_components : List ℕ → Place
in_components dir = record { dir = dir; source = Components }

-- all from its Load file
abbrev pub in_load_file : List ℕ → Place
in_load_file dir = record { dir = dir; source = LoadFile }

-- how those of a folder before these others are had, where `last` says it of the last folder
abbrev pub source_before : Source → List (List ℕ) → Source
source_before last [] = last
source_before last (next ∷ dirs) = Components

-- the folders in order: the last as `last` says, and each before it by its components
abbrev pub places : Source → List (List ℕ) → List Place
places last [] = []
places last (dir ∷ dirs) = record { dir = dir; source = source_before last dirs } ∷ places last dirs
