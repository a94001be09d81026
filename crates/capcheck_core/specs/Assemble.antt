-- What `asm` may answer, by the package in its folder, the listing beside it and the roles, and what it stores.
use Rattle.std.specs.Prelude.{◌≡◌, ℕ, ◌≤◌, List, [], ◌∷◌, length, codes, Option, Err, string_bytes, ◌⊎◌}
use Rattle.cap_files.specs.Folder.{Folders, IsThere}
use Rattle.cap_listing.specs.declared.fault.AsmEnd.{AsmEnd}
use Rattle.cap_listing.specs.declared.fault.AsmEnd.TheVariants as ends
use Rattle.cap_listing.specs.declared.fault.AsmFault.{AsmFault}
use Rattle.cap_listing.specs.declared.fault.AsmFault.TheVariants.{NotListing}
use Rattle.cap_listing.specs.declared.method.ListedMethod.{ListedMethod}
use Rattle.cap_listing.specs.Fault.{IsNotListing}
use Rattle.cap_listing.specs.Methods.{methods_of}
use Rattle.cap_listing.specs.Placing.{faults, first_refused, placed}
use Rattle.cap_listing.specs.Text.{Lists}
use Rattle.cap_package.specs.PackageRecord.{PackageRecord}
use Rattle.cap_package.specs.Parts.{Lent}
use Rattle.cap_text.specs.Assembled.{not_assembled_line}
use Rattle.cap_text.specs.Line.{methods_line}
use Rattle.cap_text.specs.OutOfDir.{OutOfDirRequest}
use Rattle.cap_text.specs.Transformed.{part_limit_line}
use Rattle.cap_write.specs.WrittenPackage.{HaveRewritten, IsPartTooLong, IsWritten}
use Rattle.capcheck_core.specs.declared.verdict.Verdict.{Verdict}
use Rattle.capcheck_core.specs.declared.verdict.Verdict.TheVariants.{Done, Limit, Malformed, StoreFault, Memory}
use Rattle.capcheck_core.specs.Beside.{LacksFile, OverFile, OwnFile}
use Rattle.capcheck_core.specs.OverPackage.{OwnOne, OverPackage}
use Rattle.capcheck_core.specs.Roles.{HasBadRoles, HasRoles, roles_key}
use Rattle.capcheck_core.specs.Stores.{AreStored, AreStoresOf, IsStoredInPart}

-- ---- what is stored

-- these methods may stand in place of the package's own
abbrev pub Fit : PackageRecord → List ListedMethod → Type 0
Fit p ms = faults (methods_of p) ms ≡ []

-- the parts stand for the package with the code, the handlers and the three numbers of these methods
pub record IsAssembled (p : PackageRecord) (ms : List ListedMethod) (parts : List Lent) : Type 0 where
  pub fit : Fit p ms
  pub again : HaveRewritten p (placed p ms) parts
  pub written : IsWritten p (placed p ms) parts

-- all are stored, and the text says how many methods they are
pub record AreAssembled
    (p : PackageRecord) (ms : List ListedMethod) (roles : Option (List ℕ)) (out : List ℕ) (before after : Folders) (text : List ℕ)
    : Type 0
  where
    pub stores : List Lent
    pub brings : AreStoresOf (IsAssembled p ms) roles stores
    pub stored : AreStored out stores before after
    pub prints : text ≡ methods_line (codes "assembled ") (length ms)

-- ---- why nothing is

-- the text is no listing, and its first bad line is named
pub record SaysNotListing (listing text : List ℕ) : Type 0 where
  pub line : ℕ
  pub is : IsNotListing listing line
  pub prints : text ≡ not_assembled_line (NotListing line)

-- the methods do not fit the package, and the first thing at fault is named
pub record SaysMisfit (p : PackageRecord) (ms : List ListedMethod) (text : List ℕ) : Type 0 where
  pub fault : AsmFault
  pub first : first_refused (faults (methods_of p) ms) ≡ Err fault
  pub prints : text ≡ not_assembled_line fault

-- the Method component would be too long, and the text says its size
pub record SaysOverlong (p : PackageRecord) (ms : List ListedMethod) (text : List ℕ) : Type 0 where
  pub fit : Fit p ms
  pub size : ℕ
  pub is : IsPartTooLong p (placed p ms) size
  pub prints : text ≡ part_limit_line size

-- ---- the answers

-- the verdict for the end of an assembling or a placing; there may be no memory for its text
abbrev pub IsUnassembledBy : AsmEnd → Verdict → Type 0
IsUnassembledBy (ends.Fault fault) (Malformed text) = string_bytes text ≡ not_assembled_line fault
IsUnassembledBy (ends.Fault fault) Memory = Unit {0}
IsUnassembledBy ends.Memory Memory = Unit {0}
IsUnassembledBy _ _ = ⊥

-- of methods
abbrev pub PutsMethods : PackageRecord → List ListedMethod → Option (List ℕ) → List ℕ → Folders → Folders → Verdict → Type 0
PutsMethods p ms roles out before after (Done text) = AreAssembled p ms roles out before after (string_bytes text)
PutsMethods p ms roles out before after StoreFault = IsStoredInPart (IsAssembled p ms) roles out before after
PutsMethods p ms roles out before after (Malformed text) = (after ≡ before) × SaysMisfit p ms (string_bytes text)
PutsMethods p ms roles out before after (Limit text) = (after ≡ before) × SaysOverlong p ms (string_bytes text)
PutsMethods p ms roles out before after Memory = after ≡ before
PutsMethods p ms roles out before after _ = ⊥

-- the text is the listing of methods of which this is true
pub record OfListing (listing : List ℕ) (P : List ListedMethod → Type 0) : Type 0 where
  pub methods : List ListedMethod
  pub lists : Lists methods listing
  pub holds : P methods

-- the answers where the text is no listing, or there is no memory to read it
abbrev pub StopsAtText : List ℕ → Folders → Folders → Verdict → Type 0
StopsAtText listing before after (Malformed text) = (after ≡ before) × SaysNotListing listing (string_bytes text)
StopsAtText listing before after Memory = after ≡ before
StopsAtText listing before after _ = ⊥

-- of a text
abbrev pub AssemblesText : PackageRecord → List ℕ → Option (List ℕ) → List ℕ → Folders → Folders → Verdict → Type 0
AssemblesText p listing roles out before after verdict =
    StopsAtText listing before after verdict ⊎ OfListing listing (λ ms. PutsMethods p ms roles out before after verdict)

-- ---- the command

-- the listing's file is part 14
abbrev pub listing_tag : ℕ
listing_tag = 14

abbrev pub listing_key : List ℕ → List ℕ
listing_key dir = listing_tag ∷ dir

-- a folder has this file of a listing, which is no longer than a component
pub record HasListing (before : Folders) (dir text : List ℕ) : Type 0 where
  pub there : IsThere before (listing_key dir) text
  pub short : length text ≤ 65538

-- by the listing: the roles are loaded, where they are there
abbrev pub AssemblesBeside : OutOfDirRequest → PackageRecord → OwnFile (List ℕ)
AssemblesBeside o p listing before after verdict =
    OverFile (HasRoles before o.dir) (HasBadRoles before o.dir) (roles_key o.dir) (λ roles. AssemblesText p listing roles o.out)
    before after verdict

-- its step: it stores in one folder what the package in the other is with the methods of the listing beside it
abbrev pub AssemblesPackage : OutOfDirRequest → OwnOne
AssemblesPackage o parts p before after verdict =
    OverFile (HasListing before o.dir) (LacksFile before o.dir listing_tag) (listing_key o.dir) (AssemblesBeside o p) before after verdict

-- the folders are as they were when it began, and as they are afterwards
abbrev pub Assembles : OutOfDirRequest → Folders → Folders → Verdict → Type 0
Assembles o before after verdict = OverPackage (AssemblesPackage o) o.dir before after verdict
