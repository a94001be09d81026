-- Why a file beside the components was not loaded, and when.
use Rattle.std.specs.Prelude.{◌≡◌, ℕ, ◌≤◌, List, ◌∷◌, length, Result, Ok, Err, Vec}
use Rattle.cap_components.specs.declared.fault.PackFault.{PackFault}
use Rattle.cap_files.specs.Folder.{Folders, IsThere, LoadFails}
use Rattle.capcheck_core.specs.declared.packages.PackagesStop.{PackagesStop}
use Rattle.capcheck_core.specs.declared.packages.PackagesStop.TheVariants.{TooMany, Malformed, Failed, Memory}
use Rattle.capcheck_core.specs.Beside.{LacksFile}
use Rattle.capcheck_core.specs.FolderFault.{OfPack}

-- why the file with this key was not loaded, for the package of a number
abbrev pub StopsFile : (PackFault → Type 0) → List ℕ → ℕ → Folders → Folders → PackagesStop → Type 0
StopsFile lacks key number before after (Malformed n fault) = (n ≡ number) × OfPack lacks fault
StopsFile lacks key number before after Failed = LoadFails before key after
StopsFile lacks key number before after Memory = Unit {0}
StopsFile lacks key number before after (TooMany count) = ⊥

-- a file that has to be there, by the answer
abbrev pub LoadsWanted : {A : Type 0} → Folders → Folders → List ℕ → ℕ → ℕ → Result (Vec ℕ A) PackagesStop → Type 0
LoadsWanted before after dir tag number (Ok file) = IsThere before (tag ∷ dir) file.items × (length file.items ≤ 65538)
LoadsWanted before after dir tag number (Err stop) = StopsFile (LacksFile before dir tag) (tag ∷ dir) number before after stop
