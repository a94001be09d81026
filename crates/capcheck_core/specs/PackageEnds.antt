-- Why packages and roles were not loaded, and when.
use Rattle.std.specs.Prelude.{◌≡◌, ℕ, ◌≤◌, List, length, Option, Some, None, Result, Ok, Err, string_bytes}
use Rattle.cap_files.specs.Folder.{Folders, IsThere, LoadFails}
use Rattle.cap_package.specs.Parts.{Lent}
use Rattle.cap_package.specs.PackageRecord.{PackageRecord}
use Rattle.cap_package.specs.FirstFault.{Tells}
use Rattle.cap_package.specs.StandsFor.{StandsFor}
use Rattle.cap_text.specs.Line.{not_linked_line}
use Rattle.jc_link.specs.LinkFault.TheVariants.{TooManyPackages}
use Rattle.cap_load.specs.LoadFile.{IsLoadFile}
use Rattle.cap_load.specs.Fault.{IsRefused}
use Rattle.cap_load.specs.Loaded as loaders
use Rattle.capcheck_core.specs.declared.load.FolderFault.TheVariants.{Stream}
use Rattle.capcheck_core.specs.declared.packages.PackagesStop.{PackagesStop}
use Rattle.capcheck_core.specs.declared.packages.PackagesStop.TheVariants.{TooMany, Malformed, Failed, Memory}
use Rattle.capcheck_core.specs.declared.verdict.Verdict.{Verdict}
use Rattle.capcheck_core.specs.declared.verdict.Verdict.TheVariants as verdicts
use Rattle.capcheck_core.specs.FolderFault.{OfPack, folder_fault_line}
use Rattle.capcheck_core.specs.InLoadFile.{load_key}
use Rattle.capcheck_core.specs.Loads.{AreParts}
use Rattle.capcheck_core.specs.Place.{Place, in_components, in_load_file}
use Rattle.capcheck_core.specs.BesideEnds.{StopsFile}
use Rattle.capcheck_core.specs.Roles.{AreRolesIn, HasRoles, HasBadRoles, LacksRoles, roles_key}
use Rattle.capcheck_core.specs.Packages.{LacksPackage, LacksPartsBy, FailsPartsBy}

-- the folders after loads of packages: as before, unless one failed
abbrev pub PackagesStopLeaves : Folders → Folders → PackagesStop → Type 0
PackagesStopLeaves before after (TooMany count) = after ≡ before
PackagesStopLeaves before after (Malformed number fault) = after ≡ before
PackagesStopLeaves before after Failed = Unit {0}
PackagesStopLeaves before after Memory = after ≡ before

abbrev pub PackagesLeave : {A : Type 0} → Folders → Folders → Result A PackagesStop → Type 0
PackagesLeave before after (Ok loaded) = after ≡ before
PackagesLeave before after (Err stop) = PackagesStopLeaves before after stop

-- ---- the roles

-- the load of the roles beside the first package, by its answer
abbrev pub LoadsRoles : Folders → Folders → List ℕ → Result (List ℕ) PackagesStop → Type 0
LoadsRoles before after dir (Ok roles) = AreRolesIn before dir roles
LoadsRoles before after dir (Err (Malformed number fault)) = (number ≡ 0) × OfPack (LacksRoles before dir) fault
LoadsRoles before after dir (Err Failed) = LoadFails before (roles_key dir) after
LoadsRoles before after dir (Err Memory) = Unit {0}
LoadsRoles before after dir (Err (TooMany count)) = ⊥

-- the load of roles that may be absent, by its answer
abbrev pub FindsRoles : Folders → Folders → List ℕ → Result (Option (List ℕ)) PackagesStop → Type 0
FindsRoles before after dir (Ok given) = HasRoles before dir given
FindsRoles before after dir (Err stop) = StopsFile (HasBadRoles before dir) (roles_key dir) 0 before after stop

-- the roles that were given, or else those beside the first package
abbrev pub RolesBeside : Folders → Folders → List ℕ → Option (List ℕ) → Result (List ℕ) PackagesStop → Type 0
RolesBeside before after dir None result = LoadsRoles before after dir result
RolesBeside before after dir (Some given) (Ok roles) = roles ≡ given
RolesBeside before after dir (Some given) (Err stop) = ⊥

-- ---- the parts of a package

-- why the parts of the package of a number were not had
abbrev pub StopsParts : Folders → Folders → Place → ℕ → PackagesStop → Type 0
StopsParts before after place number (Malformed n fault) = (n ≡ number) × LacksPartsBy before place fault
StopsParts before after place number Failed = FailsPartsBy before place after
StopsParts before after place number Memory = Unit {0}
StopsParts before after place number (TooMany count) = ⊥

-- the loads of its components, by their answer
abbrev pub LoadsFiles : Folders → Folders → List ℕ → ℕ → Result (List Lent) PackagesStop → Type 0
LoadsFiles before after dir number (Ok parts) = AreParts before dir parts
LoadsFiles before after dir number (Err stop) = StopsParts before after (in_components dir) number stop

-- the loader stands for these bytes, and takes no more of contents than a component may have
pub record HasTaken (loader : loaders.Loaded) (stream : List ℕ) : Type 0 where
  pub room : loader.room ≡ 65538
  pub stands : loaders.StandsFor loader stream

-- the loader stands for the bytes of the Load file of the folder
pub record HasLoaded (before : Folders) (dir : List ℕ) (loader : loaders.Loaded) : Type 0 where
  pub stream : List ℕ
  pub there : IsThere before (load_key dir) stream
  pub short : length stream ≤ 65538
  pub taken : HasTaken loader stream

-- the load of its Load file, by its answer
abbrev pub LoadsStream : Folders → Folders → List ℕ → ℕ → Result loaders.Loaded PackagesStop → Type 0
LoadsStream before after dir number (Ok loader) = HasLoaded before dir loader
LoadsStream before after dir number (Err stop) = StopsParts before after (in_load_file dir) number stop

-- the parts in the bytes for which a loader stands, by the answer
abbrev pub FinishesStream : List ℕ → ℕ → Result (List Lent) PackagesStop → Type 0
FinishesStream stream number (Ok parts) = IsLoadFile stream parts
FinishesStream stream number (Err (Malformed n (Stream fault))) = (n ≡ number) × IsRefused 65538 stream fault
FinishesStream stream number (Err Memory) = Unit {0}
FinishesStream stream number (Err _) = ⊥

-- ---- a package

-- the package of a number that parts stand for, by the answer
abbrev pub ReadsPackage : List Lent → ℕ → Result PackageRecord PackagesStop → Type 0
ReadsPackage parts number (Ok p) = StandsFor parts p
ReadsPackage parts number (Err (Malformed n fault)) = (n ≡ number) × OfPack (λ f. Tells parts (Err f)) fault
ReadsPackage parts number (Err _) = ⊥

-- why the package of a number was not had
abbrev pub StopsPackage : Folders → Folders → Place → ℕ → PackagesStop → Type 0
StopsPackage before after place number (Malformed n fault) = (n ≡ number) × LacksPackage before place fault
StopsPackage before after place number Failed = FailsPartsBy before place after
StopsPackage before after place number Memory = Unit {0}
StopsPackage before after place number (TooMany count) = ⊥

-- ---- the verdict for it

-- the verdict of a stop; there may be no memory for its text
abbrev pub IsStop : PackagesStop → Verdict → Type 0
IsStop (TooMany count) (verdicts.Malformed text) = string_bytes text ≡ not_linked_line (TooManyPackages count)
IsStop (TooMany count) verdicts.Memory = Unit {0}
IsStop (Malformed number fault) (verdicts.Malformed text) = string_bytes text ≡ folder_fault_line number fault
IsStop (Malformed number fault) verdicts.Memory = Unit {0}
IsStop Failed verdicts.ReadFault = Unit {0}
IsStop Memory verdicts.Memory = Unit {0}
IsStop _ _ = ⊥
