-- When a command does its work, unless there is no memory for it.
use Rattle.std.specs.Prelude.{◌≡◌, ℕ, ℤ, ◌≤◌, List, length, Option, Some, None, ◌⊎◌}
use Rattle.cap_files.specs.Counts.{Rose}
use Rattle.cap_files.specs.Folder.{Parts, Folders, Holds}
use Rattle.cap_bare.specs.declared.format.Bare.{Bare}
use Rattle.cap_bare.specs.Typing.{BareTyping}
use Rattle.cap_listing.specs.declared.method.ListedMethod.{ListedMethod}
use Rattle.cap_listing.specs.Placing.{placed}
use Rattle.cap_listing.specs.Text.{Lists}
use Rattle.cap_load.specs.declared.fault.BlocksEnd.TheVariants.{LoadLong}
use Rattle.cap_load.specs.Packing.{IsTooLong}
use Rattle.cap_text.specs.OutOfDir.{OutOfDirRequest}
use Rattle.cap_text.specs.Probe.{ProbeRequest}
use Rattle.cap_text.specs.Generate.{GenerateRequest}
use Rattle.cap_text.specs.Request.{Request, probe, show, list, asm, check, verify, defend, run, transform}
use Rattle.cap_text.specs.Request.{share, trial, generate, bound, pack, install, IsRequest}
use Rattle.cap_package.specs.Parts.{Lent}
use Rattle.cap_package.specs.PackageRecord.{PackageRecord}
use Rattle.cap_package.specs.StandsFor.{StandsFor}
use Rattle.jc_base.specs.World.{Linked}
use Rattle.jc_control.specs.Method.{Method}
use Rattle.jc_control.specs.Asked.{IsOfLast}
use Rattle.xf_pack.specs.declared.transforming.MethodLimit.{MethodLimit}
use Rattle.xf_pack.specs.Ends.{AreAcceptedLibraries, IsPartLong, IsTypedLast}
use Rattle.xf_pack.specs.Limits.{PassesLimit}
use Rattle.xf_share.specs.Ends.{IsSharedTooLong, IsSharedPartLong}
use Rattle.cap_gen.specs.Linked.{roles}
use Rattle.cap_write.specs.WrittenPackage.{IsPartTooLong}
use Rattle.jc_link.specs.World.{IsLinked}
use Rattle.capcheck_core.specs.declared.load.Source.TheVariants.{Components, LoadFile}
use Rattle.capcheck_core.specs.Assemble.{Fit, HasListing}
use Rattle.capcheck_core.specs.Generate.{generated}
use Rattle.capcheck_core.specs.Bounding.{bound_fault}
use Rattle.capcheck_core.specs.Defend.{run_fault}
use Rattle.capcheck_core.specs.MethodFile.{IsMethodFile}
use Rattle.capcheck_core.specs.Loads.{AreParts}
use Rattle.capcheck_core.specs.Packages.{AreGiven}
use Rattle.capcheck_core.specs.Place.{Place, places}
use Rattle.capcheck_core.specs.Probe.{method_key}
use Rattle.capcheck_core.specs.Report.{Seen}
use Rattle.capcheck_core.specs.Roles.{HasRoles}
use Rattle.capcheck_core.specs.Shorts.{AreShorts}
use Rattle.xf_share.specs.Ends.{HaveCardTypings}
use Rattle.capcheck_core.specs.World.{MakeWorld}

-- no load, store or put failed
pub record NoFault (before after : Folders) (sink put : Seen) : Type 0 where
  pub loads : Rose before.load_faults after.load_faults → ⊥
  pub stores : Rose before.store_faults after.store_faults → ⊥
  pub puts : Rose sink.faults put.faults → ⊥

-- the Method part of the folder is a bare method that has a typing, and the arguments fit it
pub record CanProbe (p : ProbeRequest) (before : Folders) : Type 0 where
  pub parts : Parts
  pub told : before.held ≡ Some parts
  pub file : List ℕ
  pub there : Holds parts (method_key p) file
  pub short : length file ≤ 65538
  pub bare : Bare
  pub code : List ℕ
  pub method : IsMethodFile file bare code
  pub typed : BareTyping code bare
  pub values : List ℤ
  pub fit : AreShorts p.args bare.nargs values

-- the parts of the folder stand for a package
pub record CanRead (dir : List ℕ) (before : Folders) : Type 0 where
  pub held : Parts
  pub told : before.held ≡ Some held
  pub parts : List Lent
  pub loaded : AreParts before dir parts
  pub read : PackageRecord
  pub stands : StandsFor parts read

-- so do those of the folder, and beside them stand roles or none, and a listing of methods that fit the package and are not too long for it
pub record CanAssemble (o : OutOfDirRequest) (before : Folders) : Type 0 where
  pub reads : CanRead o.dir before
  pub listing : List ℕ
  pub there : HasListing before o.dir listing
  pub roles : Option (List ℕ)
  pub beside : HasRoles before o.dir roles
  pub methods : List ListedMethod
  pub lists : Lists methods listing
  pub fit : Fit reads.read methods
  pub short : (n : ℕ) → IsPartTooLong reads.read (placed reads.read methods) n → ⊥

-- the parts of the folder stand for a package, beside them stand roles or none, and the Load file is not too long
pub record CanPack (o : OutOfDirRequest) (before : Folders) : Type 0 where
  pub reads : CanRead o.dir before
  pub roles : Option (List ℕ)
  pub beside : HasRoles before o.dir roles
  pub short : (size : ℕ) → IsTooLong reads.parts (LoadLong size) → ⊥

-- the parts at these places and the roles beside the first make this world
pub record CanLink (at : List Place) (before : Folders) (world : Linked) : Type 0 where
  pub held : Parts
  pub told : before.held ≡ Some held
  pub parts : List (List Lent)
  pub roles : List ℕ
  pub given : AreGiven before at parts roles
  pub made : MakeWorld parts roles world

-- what the packages, the roles and the world that they make must be for the last step of a command
abbrev pub Needs : Type 1
Needs = List PackageRecord → List ℕ → Linked → Type 0

-- they make a world, and it is as the command needs it
pub record CanOverPlaces (needs : Needs) (at : List Place) (before : Folders) : Type 0 where
  pub world : Linked
  pub links : CanLink at before world
  pub has : needs links.made.packages links.roles world

-- so do the components in these folders
abbrev pub CanOver : Needs → List (List ℕ) → Folders → Type 0
CanOver needs dirs before = CanOverPlaces needs (places Components dirs) before

-- no method with code of the last package passes a limit
abbrev pub AreWithinLimits : Linked → Type 0
AreWithinLimits w = (m : Method) → IsOfLast w m → (limit : MethodLimit) → PassesLimit w m limit → ⊥

-- the libraries are accepted, every method with code of the last package has a typing, and no limit is passed
pub record CanBring (packages : List PackageRecord) (w : Linked) : Type 0 where
  pub accepted : AreAcceptedLibraries w
  pub typed : IsTypedLast w
  pub within : AreWithinLimits w
  pub short : (n : ℕ) → IsPartLong packages w n → ⊥

-- every method with code has a card typing, and neither the code of a method nor the Method component gets too long
pub record CanShare (packages : List PackageRecord) (w : Linked) : Type 0 where
  pub carded : HaveCardTypings w
  pub within : (number n : ℕ) → IsSharedTooLong w number n → ⊥
  pub short : (n : ℕ) → IsSharedPartLong packages w n → ⊥

-- no limit is passed on the way to the form that a verifier on the card accepts
abbrev pub CanGenerate : GenerateRequest → Type 0
CanGenerate g =
    (w : Linked) → IsLinked (generated g.seed) roles w → AreWithinLimits w
    × ((n : ℕ) → IsPartLong (generated g.seed) w n → ⊥)

-- what a command needs is there
abbrev pub CanDo : Request → Folders → Type 0
CanDo (probe p) before = CanProbe p before
CanDo (show dir) before = CanRead dir before
CanDo (list dir) before = CanRead dir before
CanDo (asm o) before = CanAssemble o before
CanDo (check dirs) before = CanOver (λ packages roles w. IsTypedLast w) dirs before
CanDo (verify dirs) before = CanOver (λ packages roles w. HaveCardTypings w) dirs before
CanDo (defend r) before = CanOver (λ packages roles w. run_fault w r ≡ None) r.dirs before
CanDo (run r) before = CanOver (λ packages roles w. HaveCardTypings w × (run_fault w r ≡ None)) r.dirs before
CanDo (transform t) before = CanOver (λ packages roles w. CanBring packages w) t.dirs before
CanDo (share o) before = CanOver (λ packages roles w. CanShare packages w) o.dirs before
CanDo (trial r) before = CanOver (λ packages roles w. CanBring packages w × (run_fault w r ≡ None)) r.dirs before
CanDo (generate g) before = CanGenerate g
CanDo (bound e) before = CanOver (λ packages roles w. HaveCardTypings w × (bound_fault w e ≡ None)) e.dirs before
CanDo (pack o) before = CanPack o before
CanDo (install dirs) before = CanOverPlaces (λ packages roles w. HaveCardTypings w) (places LoadFile dirs) before

-- where the words ask for something, what it needs is there and no device failed, the work is done or there was no memory
abbrev pub Completes : List (List ℕ) → Folders → Folders → Seen → Seen → ℕ → Type 0
Completes words before after sink put status =
    (r : Request) → IsRequest words r → CanDo r before → NoFault before after sink put → (status ≡ 0) ⊎ (status ≡ 6)
