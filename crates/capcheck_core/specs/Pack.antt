-- What `pack` may answer, by the package in its folder and the roles beside it, and what it stores.
use Rattle.std.specs.Prelude.{◌≡◌, ℕ, ◌≤◌, List, [], length, Option, Some, string_bytes}
use Rattle.cap_files.specs.Folder.{Folders}
use Rattle.cap_load.specs.declared.fault.BlocksEnd.TheVariants.{LoadLong}
use Rattle.cap_load.specs.Packing.{IsPacked, IsTooLong}
use Rattle.cap_package.specs.Parts.{Lent}
use Rattle.cap_text.specs.OutOfDir.{OutOfDirRequest}
use Rattle.cap_text.specs.Packed.{packed_line, load_limit_line}
use Rattle.capcheck_core.specs.declared.verdict.Verdict.{Verdict}
use Rattle.capcheck_core.specs.declared.verdict.Verdict.TheVariants.{Done, Limit, StoreFault, Memory}
use Rattle.capcheck_core.specs.Beside.{OverFile}
use Rattle.capcheck_core.specs.InLoadFile.{load_tag}
use Rattle.capcheck_core.specs.Loads.{AreParts, with_file}
use Rattle.capcheck_core.specs.OverPackage.{OwnOne, OverPackage}
use Rattle.capcheck_core.specs.Roles.{HasBadRoles, HasRoles, roles_key, roles_tag}
use Rattle.capcheck_core.specs.Stores.{AreStored, IsBrokenOff}

-- ---- what is stored

-- the Load file, and then the roles where some are given
abbrev pub load_stores : List ℕ → Option (List ℕ) → List Lent
load_stores stream roles = with_file (with_file [] load_tag (Some stream)) roles_tag roles

-- the components among the parts are packed and stored, and the text says how many blocks and bytes the Load file has
pub record IsPackedIn
    (parts : List Lent) (roles : Option (List ℕ)) (out : List ℕ) (before after : Folders) (text : List ℕ) : Type 0
  where
    pub stream : List ℕ
    pub packed : IsPacked parts stream
    pub short : length stream ≤ 65538
    pub stored : AreStored out (load_stores stream roles) before after
    pub prints : text ≡ packed_line (length packed.blocks) (length stream)

-- a store failed
pub record IsPackedInPart (parts : List Lent) (roles : Option (List ℕ)) (out : List ℕ) (before after : Folders) : Type 0 where
  pub stream : List ℕ
  pub packed : IsPacked parts stream
  pub short : length stream ≤ 65538
  pub broken : IsBrokenOff out (load_stores stream roles) before after

-- the Load file would be longer than a part can be, and the text says its length
pub record SaysLoadLong (parts : List Lent) (text : List ℕ) : Type 0 where
  pub size : ℕ
  pub is : IsTooLong parts (LoadLong size)
  pub prints : text ≡ load_limit_line size

-- ---- the answers

-- of parts and roles
abbrev pub PacksInto : List Lent → Option (List ℕ) → List ℕ → Folders → Folders → Verdict → Type 0
PacksInto parts roles out before after (Done text) = IsPackedIn parts roles out before after (string_bytes text)
PacksInto parts roles out before after StoreFault = IsPackedInPart parts roles out before after
PacksInto parts roles out before after (Limit text) = (after ≡ before) × SaysLoadLong parts (string_bytes text)
PacksInto parts roles out before after Memory = after ≡ before
PacksInto parts roles out before after _ = ⊥

-- its step: the roles are loaded, where they are there, and it stores in one folder the package in the other as a Load file
abbrev pub PacksPackage : OutOfDirRequest → OwnOne
PacksPackage o parts p before after verdict =
    OverFile (HasRoles before o.dir) (HasBadRoles before o.dir) (roles_key o.dir) (λ roles. PacksInto parts roles o.out)
    before after verdict

-- the folders are as they were when it began, and as they are afterwards
abbrev pub Packs : OutOfDirRequest → Folders → Folders → Verdict → Type 0
Packs o before after verdict = OverPackage (PacksPackage o) o.dir before after verdict

-- ---- the parts of a folder

-- the parts are all that are asked for of some folder and are there
pub record IsOfFolder (parts : List Lent) : Type 0 where
  pub before : Folders
  pub dir : List ℕ
  pub loaded : AreParts before dir parts
