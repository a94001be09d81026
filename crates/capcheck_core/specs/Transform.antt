-- What `transform` may answer, by the packages and the roles in its folders, and what it stores (Leroy 2002, section 4).
use Rattle.std.specs.Prelude.{◌≡◌, ℕ, List, length, codes, Option, Some, None, string_bytes, ◌⊎◌, ◌==◌, if◌then◌else◌}
use Rattle.cap_files.specs.Folder.{Folders}
use Rattle.cap_package.specs.Parts.{Lent}
use Rattle.cap_package.specs.PackageRecord.{PackageRecord}
use Rattle.card_typing.specs.declared.fault.CardFault.{CardFault}
use Rattle.jc_base.specs.World.{Linked}
use Rattle.jc_flow.specs.declared.inference.FlowEnd.{FlowEnd}
use Rattle.xf_pack.specs.declared.transforming.MethodLimit.{MethodLimit}
use Rattle.xf_pack.specs.declared.transforming.MethodLimit.TheVariants.{Registers, StackLimit, MethodLong}
use Rattle.xf_pack.specs.Ends.{IsRefusedLibrary, IsUntypedLast, IsLimited, IsPartLong}
use Rattle.xf_pack.specs.Transformed.{IsTransformed}
use Rattle.cap_text.specs.declared.line.MethodNumber.{MethodNumber}
use Rattle.cap_text.specs.Line.{methods_line, refused_card_line, refused_flow_line}
use Rattle.cap_text.specs.OutOfDirs.{OutOfDirsRequest}
use Rattle.cap_text.specs.Transformed.{registers_limit_line, stack_limit_line, code_limit_line, part_limit_line}
use Rattle.capcheck_core.specs.declared.verdict.Verdict.{Verdict}
use Rattle.capcheck_core.specs.declared.verdict.Verdict.TheVariants.{Done, Refused, Limit, StoreFault, Memory}
use Rattle.capcheck_core.specs.Outside.{Outside}
use Rattle.capcheck_core.specs.OverFolders.{OverFolders}
use Rattle.capcheck_core.specs.Stores.{AreStored, AreStoresOf, IsStoredInPart}
use Rattle.capcheck_core.specs.Typed.{count_of_last, numbers_of_method}
use Rattle.capcheck_core.specs.World.{Own, OverWorld}

-- ---- what is stored

-- the roles are stored with the only package
abbrev pub roles_beside : List PackageRecord → List ℕ → Option (List ℕ)
roles_beside packages roles = if length packages == 1 then Some roles else None

-- these parts are stored: those of the last package in the form that a verifier on the card accepts
abbrev pub Brings : List PackageRecord → List ℕ → Linked → List Lent → Type 0
Brings packages roles w stores = AreStoresOf (IsTransformed packages roles w) (roles_beside packages roles) stores

-- all are stored, and the text says how many methods with code the package has
pub record IsBrought
    (packages : List PackageRecord) (roles : List ℕ) (w : Linked) (out : List ℕ) (before after : Folders) (text : List ℕ) : Type 0
  where
    pub stores : List Lent
    pub brings : Brings packages roles w stores
    pub stored : AreStored out stores before after
    pub prints : text ≡ methods_line (codes "transformed ") (count_of_last w)

-- a store failed
abbrev pub IsBroughtInPart : List PackageRecord → List ℕ → Linked → List ℕ → Folders → Folders → Type 0
IsBroughtInPart packages roles w out before after =
    IsStoredInPart (IsTransformed packages roles w) (roles_beside packages roles) out before after

-- ---- why nothing is

-- a library is refused, and the text names the first of its methods that is
pub record SaysRefused (w : Linked) (text : List ℕ) : Type 0 where
  pub number : ℕ
  pub fault : CardFault
  pub is : IsRefusedLibrary w number fault
  pub prints : text ≡ refused_card_line (numbers_of_method is.method.rec) fault

-- the text names the first method of the last package that has no dataflow typing
pub record SaysUntyped (w : Linked) (text : List ℕ) : Type 0 where
  pub number : ℕ
  pub end : FlowEnd
  pub is : IsUntypedLast w number end
  pub prints : text ≡ refused_flow_line (numbers_of_method is.method.rec) end

-- the line for a limit of a method
abbrev pub limit_line : MethodNumber → MethodLimit → List ℕ
limit_line method (Registers n) = registers_limit_line method n
limit_line method StackLimit = stack_limit_line method
limit_line method (MethodLong n) = code_limit_line method n

-- the text names the first method of the last package that passes a limit
pub record SaysLimited (w : Linked) (text : List ℕ) : Type 0 where
  pub number : ℕ
  pub limit : MethodLimit
  pub is : IsLimited w number limit
  pub prints : text ≡ limit_line (numbers_of_method is.method.rec) limit

-- the Method component would be too long, and the text says its size
pub record SaysLong (packages : List PackageRecord) (w : Linked) (text : List ℕ) : Type 0 where
  pub size : ℕ
  pub is : IsPartLong packages w size
  pub prints : text ≡ part_limit_line size

-- ---- the answers

-- the answers where nothing is stored
abbrev pub StopsBefore : List PackageRecord → Linked → Verdict → Type 0
StopsBefore packages w (Refused text) = SaysRefused w (string_bytes text) ⊎ SaysUntyped w (string_bytes text)
StopsBefore packages w (Limit text) = SaysLimited w (string_bytes text) ⊎ SaysLong packages w (string_bytes text)
StopsBefore packages w Memory = Unit {0}
StopsBefore packages w _ = ⊥

-- the answers of a world, by the folders before and after
abbrev pub TransformsIn : List PackageRecord → List ℕ → Linked → List ℕ → Folders → Folders → Verdict → Type 0
TransformsIn packages roles w out before after (Done text) = IsBrought packages roles w out before after (string_bytes text)
TransformsIn packages roles w out before after StoreFault = IsBroughtInPart packages roles w out before after
TransformsIn packages roles w out before after verdict = (after ≡ before) × StopsBefore packages w verdict

-- its last step: it leaves the memory of the card as it is
abbrev pub TransformsWorld : OutOfDirsRequest → Own
TransformsWorld t packages roles w before after verdict =
    (after.card ≡ before.card) × TransformsIn packages roles w t.out before.folders after.folders verdict

-- the outside is as it was when the command began, and as it is afterwards
abbrev pub Transforms : OutOfDirsRequest → Outside → Outside → Verdict → Type 0
Transforms t before after verdict = OverFolders (OverWorld (TransformsWorld t)) t.dirs before after verdict
