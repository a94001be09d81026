-- What a command on the package of one folder answers: the parts are loaded, with their faults, and then the command does its own work.
use Rattle.std.specs.Prelude.{◌≡◌, ℕ, List, string_bytes, Result, Ok, Err, ◌⊎◌}
use Rattle.cap_files.specs.Folder.{Folders}
use Rattle.cap_components.specs.declared.fault.PackFault.{PackFault}
use Rattle.cap_package.specs.Parts.{Lent}
use Rattle.cap_package.specs.PackageRecord.{PackageRecord}
use Rattle.cap_package.specs.StandsFor.{StandsFor}
use Rattle.cap_text.specs.Line.{malformed_line}
use Rattle.capcheck_core.specs.declared.load.FolderFault.TheVariants.{Pack}
use Rattle.capcheck_core.specs.declared.packages.PackagesStop.{PackagesStop}
use Rattle.capcheck_core.specs.declared.verdict.Verdict.{Verdict}
use Rattle.capcheck_core.specs.declared.verdict.Verdict.TheVariants.{Malformed, ReadFault, Memory}
use Rattle.capcheck_core.specs.Loads.{AreParts, FailsParts}
use Rattle.capcheck_core.specs.Packages.{LacksPackage}
use Rattle.capcheck_core.specs.Place.{in_components}
use Rattle.capcheck_core.specs.PackageEnds.{PackagesStopLeaves, StopsPackage}

-- what a command answers, and makes of the folders, by the parts and the package that they stand for
abbrev pub OwnOne : Type 1
OwnOne = List Lent → PackageRecord → Folders → Folders → Verdict → Type 0

-- the folder has no package, and the text names the first thing that is at fault
pub record SaysLacking (before : Folders) (dir text : List ℕ) : Type 0 where
  pub fault : PackFault
  pub lacks : LacksPackage before (in_components dir) (Pack fault)
  pub prints : text ≡ malformed_line 0 fault

-- the answers where the package was not loaded: only a failed load leaves a trace
abbrev pub StopsAtPackage : List ℕ → Folders → Folders → Verdict → Type 0
StopsAtPackage dir before after (Malformed text) = (after ≡ before) × SaysLacking before dir (string_bytes text)
StopsAtPackage dir before after ReadFault = FailsParts before dir after
StopsAtPackage dir before after Memory = after ≡ before
StopsAtPackage dir before after _ = ⊥

-- the parts of the folder stand for a package of which this is true
pub record OfPackage (before : Folders) (dir : List ℕ) (P : List Lent → PackageRecord → Type 0) : Type 0 where
  pub parts : List Lent
  pub loaded : AreParts before dir parts
  pub read : PackageRecord
  pub stands : StandsFor parts read
  pub holds : P parts read

-- what a command answers, and makes of the folders: where the package was loaded, `own` says both
abbrev pub OverPackage : OwnOne → List ℕ → Folders → Folders → Verdict → Type 0
OverPackage own dir before after verdict =
    StopsAtPackage dir before after verdict ⊎ OfPackage before dir (λ parts read. own parts read before after verdict)

-- the verdict, or why the package was not loaded
abbrev pub GoesOverOne : OwnOne → List ℕ → Folders → Folders → Result Verdict PackagesStop → Type 0
GoesOverOne own dir before after (Ok verdict) = OfPackage before dir (λ parts read. own parts read before after verdict)
GoesOverOne own dir before after (Err stop) = PackagesStopLeaves before after stop × StopsPackage before after (in_components dir) 0 stop
