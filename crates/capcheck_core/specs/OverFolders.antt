-- What a command over the packages in folders answers: the folders are counted, the packages loaded, each with its faults, and then the
-- command does its own work.
use Rattle.std.specs.Prelude.{◌≡◌, ℕ, ◌≤◌, List, length, string_bytes, ◌⊎◌}
use Rattle.cap_files.specs.Folder.{Folders}
use Rattle.cap_package.specs.Parts.{Lent}
use Rattle.cap_text.specs.Line.{not_linked_line}
use Rattle.jc_link.specs.LinkFault.TheVariants.{TooManyPackages}
use Rattle.capcheck_core.specs.declared.load.FolderFault.{FolderFault}
use Rattle.capcheck_core.specs.declared.load.Source.TheVariants.{Components}
use Rattle.capcheck_core.specs.declared.verdict.Verdict.{Verdict}
use Rattle.capcheck_core.specs.declared.verdict.Verdict.TheVariants.{Malformed, ReadFault, Memory}
use Rattle.capcheck_core.specs.FolderFault.{folder_fault_line}
use Rattle.capcheck_core.specs.Outside.{Outside, Untouched}
use Rattle.capcheck_core.specs.Packages.{AreGiven, AreTooMany, IsFirstAtFault, IsFailed}
use Rattle.capcheck_core.specs.Place.{Place, places}

-- there are too many folders, and the text says how many
pub record SaysTooMany (at : List Place) (text : List ℕ) : Type 0 where
  pub count : ℕ
  pub many : AreTooMany at count
  pub prints : text ≡ not_linked_line (TooManyPackages count)

-- a package or the roles are at fault, and the text names the first fault
pub record SaysFault (before : Folders) (at : List Place) (text : List ℕ) : Type 0 where
  pub number : ℕ
  pub fault : FolderFault
  pub is : IsFirstAtFault before at number fault
  pub prints : text ≡ folder_fault_line number fault

-- the answers where not all packages and roles were loaded: more than 16 folders are not loaded, and only a failed load leaves a trace
abbrev pub StopsAtLoad : List Place → Outside → Outside → Verdict → Type 0
StopsAtLoad at before after (Malformed text) =
    Untouched before after × (SaysTooMany at (string_bytes text) ⊎ SaysFault before.folders at (string_bytes text))
StopsAtLoad at before after ReadFault = IsFailed before.folders at after.folders × (after.card ≡ before.card)
StopsAtLoad at before after Memory = Untouched before after
StopsAtLoad at before after _ = ⊥

-- the parts of at most 16 packages and the roles are such that this is true
pub record OfGiven (before : Folders) (at : List Place) (P : List (List Lent) → List ℕ → Type 0) : Type 0 where
  pub few : length at ≤ 16
  pub parts : List (List Lent)
  pub roles : List ℕ
  pub given : AreGiven before at parts roles
  pub holds : P parts roles

-- what a command answers, and makes of the outside: where all parts and roles were loaded, `own` says both
abbrev pub OverPlaces : (List (List Lent) → List ℕ → Outside → Outside → Verdict → Type 0) → List Place
    → Outside → Outside → Verdict → Type 0
OverPlaces own at before after verdict =
    StopsAtLoad at before after verdict ⊎ OfGiven before.folders at (λ parts roles. own parts roles before after verdict)

-- the same where the parts of each package are its components
abbrev pub OverFolders : (List (List Lent) → List ℕ → Outside → Outside → Verdict → Type 0) → List (List ℕ)
    → Outside → Outside → Verdict → Type 0
OverFolders own dirs before after verdict = OverPlaces own (places Components dirs) before after verdict
