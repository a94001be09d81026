-- The parts of a package that stand in one Load file of its folder, and when its bytes are refused.
use Rattle.std.specs.Prelude.{ℕ, ◌≤◌, List, ◌∷◌, length}
use Rattle.cap_components.specs.Parts.{Lent}
use Rattle.cap_files.specs.Folder.{Folders, IsThere}
use Rattle.cap_load.specs.declared.fault.StreamFault.{StreamFault}
use Rattle.cap_load.specs.LoadFile.{IsLoadFile}
use Rattle.cap_load.specs.Fault.{IsRefused}

-- the Load file is part 13
abbrev pub load_tag : ℕ
load_tag = 13

-- the key of the Load file of a folder
abbrev pub load_key : List ℕ → List ℕ
load_key dir = load_tag ∷ dir

-- the folder has a Load file of these parts, which is no longer than a component
pub record AreInLoadFile (before : Folders) (dir : List ℕ) (parts : List Lent) : Type 0 where
  pub stream : List ℕ
  pub there : IsThere before (load_key dir) stream
  pub short : length stream ≤ 65538
  pub loads : IsLoadFile stream parts

-- that file is refused for this fault, where there is room for as many bytes of contents
pub record IsBadStream (before : Folders) (dir : List ℕ) (fault : StreamFault) : Type 0 where
  pub stream : List ℕ
  pub there : IsThere before (load_key dir) stream
  pub short : length stream ≤ 65538
  pub refused : IsRefused 65538 stream fault
