-- The packages in several folders, with the roles of classes beside the first, and what stops their loads: the parts of the first
-- package, its roles, and then the parts of each other package in turn.
use Rattle.std.specs.Prelude.{◌≡◌, ℕ, suc, ◌<◌, ◌≤◌, ◌⊎◌, min, List, [], ◌∷◌, length, Err}
use Rattle.std.specs.List.{AllZip}
use Rattle.cap_files.specs.Folder.{Folders, LoadFails}
use Rattle.cap_components.specs.declared.fault.PackFault.{PackFault}
use Rattle.cap_components.specs.declared.fault.PackFault.TheVariants.{PartTooLong}
use Rattle.cap_package.specs.Parts.{Lent}
use Rattle.cap_package.specs.StandsFor.{HavePackage}
use Rattle.cap_package.specs.FirstFault.{Tells}
use Rattle.capcheck_core.specs.declared.load.FolderFault.{FolderFault}
use Rattle.capcheck_core.specs.declared.load.FolderFault.TheVariants.{Pack, Stream}
use Rattle.capcheck_core.specs.declared.load.Source.{Source}
use Rattle.capcheck_core.specs.declared.load.Source.TheVariants.{Components, LoadFile}
use Rattle.capcheck_core.specs.Beside.{LacksFile}
use Rattle.capcheck_core.specs.FolderFault.{OfPack}
use Rattle.capcheck_core.specs.InLoadFile.{AreInLoadFile, IsBadStream, load_tag, load_key}
use Rattle.capcheck_core.specs.Loads.{AreParts, IsFirstLong, FailsParts}
use Rattle.capcheck_core.specs.Place.{Place}
use Rattle.capcheck_core.specs.Roles.{AreRolesIn, LacksRoles, roles_key}

-- ---- the parts of a package

-- by how they are had from a folder
abbrev pub ArePartsAt : Folders → Source → List ℕ → List Lent → Type 0
ArePartsAt before Components dir parts = AreParts before dir parts
ArePartsAt before LoadFile dir parts = AreInLoadFile before dir parts

abbrev pub ArePartsBy : Folders → Place → List Lent → Type 0
ArePartsBy before place parts = ArePartsAt before place.source place.dir parts

-- ---- packages

-- they stand for a package
pub record HasPackage (before : Folders) (place : Place) : Type 0 where
  pub parts : List Lent
  pub loaded : ArePartsBy before place parts
  pub whole : HavePackage parts

-- the roles beside the first package
abbrev pub AreRoleBytes : Folders → List Place → List ℕ → Type 0
AreRoleBytes before [] roles = ⊥
AreRoleBytes before (place ∷ others) roles = AreRolesIn before place.dir roles

-- the parts of each package, in order, and the roles beside the first
pub record AreGiven (before : Folders) (places : List Place) (parts : List (List Lent)) (roles : List ℕ) : Type 0 where
  pub parts_are : AllZip (ArePartsBy before) places parts
  pub roles_are : AreRoleBytes before places roles

-- ---- too many

-- so many packages: none, or more than 16
pub record AreTooMany (places : List Place) (count : ℕ) : Type 0 where
  pub wrong : (length places ≡ 0) ⊎ (16 < length places)
  pub counts : count ≡ min (length places) 4294967295

-- ---- what is at fault in one folder

-- a part of the folder is too long
pub record HasLongPart (before : Folders) (dir : List ℕ) (fault : PackFault) : Type 0 where
  pub tag : ℕ
  pub first : IsFirstLong before dir tag
  pub named : fault ≡ PartTooLong tag

-- why no parts are had from a folder
abbrev pub LacksPartsAt : Folders → Source → List ℕ → FolderFault → Type 0
LacksPartsAt before Components dir fault = OfPack (HasLongPart before dir) fault
LacksPartsAt before LoadFile dir (Pack fault) = LacksFile before dir load_tag fault
LacksPartsAt before LoadFile dir (Stream fault) = IsBadStream before dir fault

abbrev pub LacksPartsBy : Folders → Place → FolderFault → Type 0
LacksPartsBy before place fault = LacksPartsAt before place.source place.dir fault

-- the parts stand for no package, and this is the first thing at fault
pub record IsNoPackage (before : Folders) (place : Place) (fault : FolderFault) : Type 0 where
  pub parts : List Lent
  pub loaded : ArePartsBy before place parts
  pub refused : OfPack (λ f. Tells parts (Err f)) fault

-- why there is no package
abbrev pub LacksPackage : Folders → Place → FolderFault → Type 0
LacksPackage before place fault = LacksPartsBy before place fault ⊎ IsNoPackage before place fault

-- the load of a part that is asked for failed, and that of no part before it
abbrev pub FailsPartsAt : Folders → Source → List ℕ → Folders → Type 0
FailsPartsAt before Components dir after = FailsParts before dir after
FailsPartsAt before LoadFile dir after = LoadFails before (load_key dir) after

abbrev pub FailsPartsBy : Folders → Place → Folders → Type 0
FailsPartsBy before place after = FailsPartsAt before place.source place.dir after

-- ---- the first package at which the loads stop

-- of packages that are numbered from here on, the first of which this is true, where each before it is there
abbrev pub IsFirstWhere : Folders → ℕ → List Place → (ℕ → Place → Type 0) → Type 0
IsFirstWhere before from [] P = ⊥
IsFirstWhere before from (place ∷ others) P =
    P from place ⊎ (HasPackage before place × IsFirstWhere before (suc from) others P)

-- the first package is there, and of its folder this is true
pub record IsAtRoles (before : Folders) (place : Place) (R : List ℕ → Type 0) : Type 0 where
  pub has : HasPackage before place
  pub holds : R place.dir

-- the first package and its roles are there, and of the others this is the first of which this is true
pub record IsAfterRoles (before : Folders) (place : Place) (others : List Place) (P : ℕ → Place → Type 0) : Type 0 where
  pub has : HasPackage before place
  pub roles : List ℕ
  pub roles_are : AreRolesIn before place.dir roles
  pub first : IsFirstWhere before 1 others P

-- in the order of the loads the first place where `P` is true of a package's number and place, or `R` of the folder of the roles
abbrev pub IsFirstStop : Folders → List Place → (ℕ → Place → Type 0) → (List ℕ → Type 0) → Type 0
IsFirstStop before [] P R = ⊥
IsFirstStop before (place ∷ others) P R = P 0 place ⊎ IsAtRoles before place R ⊎ IsAfterRoles before place others P

-- of at most 16 packages the first thing at fault, with the number of its package
pub record IsFirstAtFault (before : Folders) (places : List Place) (number : ℕ) (fault : FolderFault) : Type 0 where
  pub few : length places ≤ 16
  pub first : IsFirstStop before places (λ n place. (number ≡ n) × LacksPackage before place fault)
      (λ dir. (number ≡ 0) × OfPack (LacksRoles before dir) fault)

-- of at most 16 packages a load failed, of a part that is asked for, and all before it were there
pub record IsFailed (before : Folders) (places : List Place) (after : Folders) : Type 0 where
  pub few : length places ≤ 16
  pub first : IsFirstStop before places (λ n place. FailsPartsBy before place after) (λ dir. LoadFails before (roles_key dir) after)
