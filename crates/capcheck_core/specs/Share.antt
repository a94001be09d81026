-- What `share` may answer, by the packages and the roles in its folders, and what it stores (Chaitin 1982; Leroy 2002, section 4).
use Rattle.std.specs.Prelude.{◌≡◌, ℕ, List, string_bytes, ◌⊎◌}
use Rattle.cap_files.specs.Folder.{Folders}
use Rattle.cap_package.specs.Parts.{Lent}
use Rattle.cap_package.specs.PackageRecord.{PackageRecord}
use Rattle.jc_base.specs.World.{Linked}
use Rattle.law_shared_world.specs.SharedCode.{locals_of_last}
use Rattle.xf_share.specs.Ends.{IsSharedTooLong, IsSharedPartLong}
use Rattle.xf_share.specs.Shared.{IsShared}
use Rattle.cap_text.specs.OutOfDirs.{OutOfDirsRequest}
use Rattle.cap_text.specs.Shared.{shared_line}
use Rattle.cap_text.specs.Transformed.{code_limit_line, part_limit_line}
use Rattle.capcheck_core.specs.declared.verdict.Verdict.{Verdict}
use Rattle.capcheck_core.specs.declared.verdict.Verdict.TheVariants.{Done, Refused, Limit, StoreFault, Memory}
use Rattle.capcheck_core.specs.Outside.{Outside}
use Rattle.capcheck_core.specs.OverFolders.{OverFolders}
use Rattle.capcheck_core.specs.Stores.{AreStored, AreStoresOf, IsStoredInPart}
use Rattle.capcheck_core.specs.Transform.{roles_beside}
use Rattle.capcheck_core.specs.Typed.{count_of_last, numbers_of_method}
use Rattle.capcheck_core.specs.Verify.{TellsRefused}
use Rattle.capcheck_core.specs.World.{Own, OverWorld}

-- ---- what is stored

-- the parts of the last package, whose methods share registers, are stored. The text says how many methods with code it has, and how many
-- registers these have beside their arguments, before and after
pub record IsSharedOut
    (packages : List PackageRecord) (roles : List ℕ) (w : Linked) (out : List ℕ) (before after : Folders) (text : List ℕ) : Type 0
  where
    pub stores : List Lent
    pub shares : AreStoresOf (IsShared packages roles w) (roles_beside packages roles) stores
    pub stored : AreStored out stores before after
    pub prints : text ≡ shared_line (count_of_last w) (locals_of_last w) (locals_of_last shares.made.keeps.world)

-- a store failed
abbrev pub IsSharedInPart : List PackageRecord → List ℕ → Linked → List ℕ → Folders → Folders → Type 0
IsSharedInPart packages roles w out before after =
    IsStoredInPart (IsShared packages roles w) (roles_beside packages roles) out before after

-- ---- why nothing is

-- the text names the first method of the last package whose code would be too long
pub record SaysCodeLong (w : Linked) (text : List ℕ) : Type 0 where
  pub number : ℕ
  pub size : ℕ
  pub is : IsSharedTooLong w number size
  pub prints : text ≡ code_limit_line (numbers_of_method is.method.rec) size

-- the Method component would be too long, and the text says its size
pub record SaysComponentLong (packages : List PackageRecord) (w : Linked) (text : List ℕ) : Type 0 where
  pub size : ℕ
  pub is : IsSharedPartLong packages w size
  pub prints : text ≡ part_limit_line size

-- ---- the answers

-- the answers where nothing is stored
abbrev pub StopsSharing : List PackageRecord → Linked → Verdict → Type 0
StopsSharing packages w (Refused text) = TellsRefused w (string_bytes text)
StopsSharing packages w (Limit text) = SaysCodeLong w (string_bytes text) ⊎ SaysComponentLong packages w (string_bytes text)
StopsSharing packages w Memory = Unit {0}
StopsSharing packages w _ = ⊥

-- the answers of a world, by the folders before and after
abbrev pub SharesIn : List PackageRecord → List ℕ → Linked → List ℕ → Folders → Folders → Verdict → Type 0
SharesIn packages roles w out before after (Done text) = IsSharedOut packages roles w out before after (string_bytes text)
SharesIn packages roles w out before after StoreFault = IsSharedInPart packages roles w out before after
SharesIn packages roles w out before after verdict = (after ≡ before) × StopsSharing packages w verdict

-- its last step: it leaves the memory of the card as it is
abbrev pub SharesWorld : OutOfDirsRequest → Own
SharesWorld o packages roles w before after verdict =
    (after.card ≡ before.card) × SharesIn packages roles w o.out before.folders after.folders verdict

-- the outside is as it was when the command began, and as it is afterwards
abbrev pub Shares : OutOfDirsRequest → Outside → Outside → Verdict → Type 0
Shares o before after verdict = OverFolders (OverWorld (SharesWorld o)) o.dirs before after verdict
