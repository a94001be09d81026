-- What a command answers while the packages in its folders are loaded: each package is read as soon as its parts are there, and is held
-- while the next folder is loaded.
use Rattle.std.specs.Prelude.{◌≡◌, ℕ, List, ◌++◌, length, Option, Some, None, Result, Ok, Err}
use Rattle.std.specs.List.{AllZip}
use Rattle.cap_files.specs.Folder.{Folders, LoadFails}
use Rattle.cap_package.specs.Parts.{Lent}
use Rattle.cap_package.specs.PackageRecord.{PackageRecord}
use Rattle.cap_package.specs.StandsFor.{StandsFor}
use Rattle.capcheck_core.specs.declared.packages.PackagesStop.{PackagesStop}
use Rattle.capcheck_core.specs.declared.packages.PackagesStop.TheVariants.{TooMany, Malformed, Failed, Memory}
use Rattle.capcheck_core.specs.declared.verdict.Verdict.{Verdict}
use Rattle.capcheck_core.specs.Outside.{Outside}
use Rattle.capcheck_core.specs.FolderFault.{OfPack}
use Rattle.capcheck_core.specs.Place.{Place}
use Rattle.capcheck_core.specs.Roles.{LacksRoles, roles_key}
use Rattle.capcheck_core.specs.Packages.{ArePartsBy, FailsPartsBy, AreRoleBytes, AreTooMany, LacksPackage}
use Rattle.capcheck_core.specs.Packages.{IsFirstWhere, IsFirstStop, IsFirstAtFault, IsFailed}
use Rattle.capcheck_core.specs.PackageEnds.{PackagesStopLeaves}
use Rattle.capcheck_core.specs.OverFolders.{OfGiven}
use Rattle.capcheck_core.specs.World.{Own, OverPackages, OverWorld}

-- ---- packages after those that are loaded

-- no roles are given exactly before the first package
abbrev pub GivenAfterFirst : Option (List ℕ) → ℕ → Type 0
GivenAfterFirst None number = number ≡ 0
GivenAfterFirst (Some given) number = Unit {0}

-- the roles: those that are given, or else those beside the first of these packages
abbrev pub RolesAre : Folders → List Place → Option (List ℕ) → List ℕ → Type 0
RolesAre before at None roles = AreRoleBytes before at roles
RolesAre before at (Some given) roles = roles ≡ given

-- in the order of the loads the first of these places where `P` is true of a package's number and place, or `R` of the folder of the roles
abbrev pub IsStopAt : Folders → Option (List ℕ) → ℕ → List Place → (ℕ → Place → Type 0)
    → (List ℕ → Type 0) → Type 0
IsStopAt before None number at P R = IsFirstStop before at P R
IsStopAt before (Some given) number at P R = IsFirstWhere before number at P

-- why the loads of these packages stop, of which the first has this number
abbrev pub StopsOver : Folders → Folders → Option (List ℕ) → ℕ → List Place → PackagesStop → Type 0
StopsOver before after given number at (Malformed m fault) = IsStopAt before given number at
    (λ n place. (m ≡ n) × LacksPackage before place fault) (λ dir. (m ≡ 0) × OfPack (LacksRoles before dir) fault)
StopsOver before after given number at Failed = IsStopAt before given number at
    (λ n place. FailsPartsBy before place after) (λ dir. LoadFails before (roles_key dir) after)
StopsOver before after given number at Memory = Unit {0}
StopsOver before after given number at (TooMany count) = ⊥

-- they stop, and only a failed load leaves a trace
pub record Stops (before after : Outside) (given : Option (List ℕ)) (number : ℕ) (at : List Place) (stop : PackagesStop)
    : Type 0 where
  pub stops : StopsOver before.folders after.folders given number at stop
  pub leaves : PackagesStopLeaves before.folders after.folders stop
  pub card : after.card ≡ before.card

-- these packages, after those that were made before, and the roles are such that the command answers so
pub record AnswersOverRest (own : Own) (at : List Place) (made : List PackageRecord) (given : Option (List ℕ))
    (before after : Outside) (verdict : Verdict) : Type 0 where
  pub parts : List (List Lent)
  pub loaded : AllZip (ArePartsBy before.folders) at parts
  pub more : List PackageRecord
  pub stand : AllZip StandsFor parts more
  pub roles : List ℕ
  pub roles_are : RolesAre before.folders at given roles
  pub holds : OverPackages own (made ++ more) roles before after verdict

-- what a command answers over the packages that were made and these, and makes of the outside
abbrev pub GoesOver : Own → List Place → List PackageRecord → Option (List ℕ) → Outside → Outside
    → Result Verdict PackagesStop → Type 0
GoesOver own at made given before after (Ok verdict) = AnswersOverRest own at made given before after verdict
GoesOver own at made given before after (Err stop) = Stops before after given (length made) at stop

-- ---- all packages

-- why the packages and the roles were not loaded
abbrev pub StopsLoads : Folders → Folders → List Place → PackagesStop → Type 0
StopsLoads before after at (TooMany count) = AreTooMany at count
StopsLoads before after at (Malformed number fault) = IsFirstAtFault before at number fault
StopsLoads before after at Failed = IsFailed before at after
StopsLoads before after at Memory = Unit {0}

-- they were not, and only a failed load leaves a trace
pub record StopsAll (before after : Outside) (at : List Place) (stop : PackagesStop) : Type 0 where
  pub stops : StopsLoads before.folders after.folders at stop
  pub leaves : PackagesStopLeaves before.folders after.folders stop
  pub card : after.card ≡ before.card

-- what a command answers over all its packages, and makes of the outside
abbrev pub GoesOverAll : Own → List Place → Outside → Outside → Result Verdict PackagesStop → Type 0
GoesOverAll own at before after (Ok verdict) =
    OfGiven before.folders at (λ parts roles. OverWorld own parts roles before after verdict)
GoesOverAll own at before after (Err stop) = StopsAll before after at stop
