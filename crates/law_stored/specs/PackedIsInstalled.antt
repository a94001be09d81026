-- What `pack` stores is installed exactly as `verify` accepts its source.
use Rattle.std.specs.Prelude.{◌≡◌, ◌↔◌, ℕ, ◌==◌, Bool, true, false, List, [], ◌∷◌, IsSome, refl}
use Rattle.std.proofs.Common.{subst}
use Rattle.std.proofs.lemmas.Bool.{eqb-true}
use Rattle.cap_files.specs.Folder.{Folders}
use Rattle.cap_package.specs.PackageRecord.{PackageRecord}
use Rattle.cap_package.specs.Parts.{Lent, held}
use Rattle.cap_package.specs.StandsFor.{StandsFor}
use Rattle.cap_text.specs.Request.{install, verify}
use Rattle.cap_text.specs.OutOfDir.{OutOfDirRequest}
use Rattle.jc_base.specs.World.{Linked}
use Rattle.capcheck_core.specs.declared.load.Source.{Source}
use Rattle.capcheck_core.specs.declared.load.Source.TheVariants.{Components, LoadFile}
use Rattle.capcheck_core.specs.Completeness.{CanDo}
use Rattle.capcheck_core.specs.Headline.{Accepted, HoldWorld, Packed}
use Rattle.capcheck_core.specs.InLoadFile.{AreInLoadFile}
use Rattle.capcheck_core.specs.Loads.{AreParts}
use Rattle.capcheck_core.specs.Packages.{AreRoleBytes}
use Rattle.capcheck_core.specs.Place.{places}
use Rattle.capcheck_core.specs.Verify.{TellsRefused}
use Rattle.law_stored.specs.StoredIsRead.{IsApart, with_last}

-- ---- the package

-- parts hold for each tag what the others hold, in whatever order they stand
abbrev pub HoldTheSame : List Lent → List Lent → Type 0
HoldTheSame parts others = (tag : ℕ) → held parts tag ≡ held others tag

abbrev file_of : ℕ → List ℕ → Lent
file_of tag bytes = record { part = tag; bytes = bytes }

neither : (imports applets : List ℕ) (tag : ℕ) → (4 == tag) ≡ false → (3 == tag) ≡ false
    → held (file_of 4 imports ∷ file_of 3 applets ∷ []) tag ≡ held (file_of 3 applets ∷ file_of 4 imports ∷ []) tag
neither imports applets tag e h = rw (e, h) refl

-- a folder has the Applet component before the Import component, and a Load file has it behind
imports_first : (imports applets : List ℕ)
    → HoldTheSame (file_of 4 imports ∷ file_of 3 applets ∷ []) (file_of 3 applets ∷ file_of 4 imports ∷ [])
imports_first imports applets tag = by (4 == tag) refl (3 == tag) refl
  where
    Same : ℕ → Type 0
    Same t = held (file_of 4 imports ∷ file_of 3 applets ∷ []) t ≡ held (file_of 3 applets ∷ file_of 4 imports ∷ []) t

    by : (b : Bool) → (4 == tag) ≡ b → (c : Bool) → (3 == tag) ≡ c → Same tag
    by true e c h = subst Same (eqb-true 4 tag e) refl
    by false e true h = subst Same (eqb-true 3 tag h) refl
    by false e false h = neither imports applets tag e h

-- a package, with the parts from which it is read
abbrev pub read_from : List Lent → PackageRecord → PackageRecord
read_from parts p = record p { parts = parts }

-- The parts that are asked for in the folder that was packed, and those in the Load file of the other folder: these hold the same, and
-- stand for the same package
pub record IsSamePackage (o : OutOfDirRequest) (before after : Folders) : Type 0 where
  pub parts : List Lent
  pub loaded : AreParts before o.dir parts
  pub read : PackageRecord
  pub stands : StandsFor parts read
  pub moved : List Lent
  pub in_file : AreInLoadFile after o.out moved
  pub same : HoldTheSame moved parts
  pub again : StandsFor moved (read_from moved read)

-- ---- the worlds

-- packages in these folders, and how the parts of the last of them are had
pub record Side : Type 0 where
  pub source : Source
  pub folders : Folders
  pub dirs : List (List ℕ)

-- the packages make this world
abbrev pub Makes : Side → Linked → Type 0
Makes side w = HoldWorld side.source side.folders side.dirs w

-- they are accepted, and the text says so
abbrev pub IsAcceptedOn : Side → List ℕ → Type 0
IsAcceptedOn side text = Accepted side.source side.dirs side.folders text

-- they make a world that is refused, and the text names its first method without a card typing
pub record IsRefusedOn (side : Side) (text : List ℕ) : Type 0 where
  pub world : Linked
  pub held : Makes side world
  pub tells : TellsRefused world text

-- both make the same worlds, and what is accepted or refused on one is so on the other, with the same line
pub record AnswerAlike (first second : Side) : Type 0 where
  pub worlds : (w : Linked) → Makes first w ↔ Makes second w
  pub accepted : (text : List ℕ) → IsAcceptedOn first text ↔ IsAcceptedOn second text
  pub refused : (text : List ℕ) → IsRefusedOn first text ↔ IsRefusedOn second text

-- the libraries and the package that was packed, each by its components
abbrev pub verified : OutOfDirRequest → List (List ℕ) → Folders → Side
verified o libraries before = record { source = Components; folders = before; dirs = with_last libraries o.dir }

-- the libraries and the Load file
abbrev pub installed : OutOfDirRequest → List (List ℕ) → Folders → Side
installed o libraries after = record { source = LoadFile; folders = after; dirs = with_last libraries o.out }

-- roles stand beside the first of the packages that are verified
abbrev pub HaveRoles : OutOfDirRequest → List (List ℕ) → Folders → Type 0
HaveRoles o libraries before = (roles : List ℕ) × AreRoleBytes before (places Components (with_last libraries o.dir)) roles

-- `install` answers with the Load file as `verify` does with the package, and has what it needs where that has
pub record IsInstalledAsVerified (o : OutOfDirRequest) (libraries : List (List ℕ)) (before after : Folders) : Type 0 where
  pub answers : AnswerAlike (verified o libraries before) (installed o libraries after)
  pub can : CanDo (verify (with_last libraries o.dir)) before ↔ CanDo (install (with_last libraries o.out)) after

-- ---- the law

-- The Load file has the package that was packed. With libraries in other folders it is installed as the package is verified, where the
-- folders tell what they hold, and roles stand beside the first package: without any, `verify` has none, and those that OUT had stay
pub record IsInstalled (o : OutOfDirRequest) (before after : Folders) : Type 0 where
  pub same : IsSamePackage o before after
  pub alike :
      (libraries : List (List ℕ))
      → IsApart libraries o.out
      → HaveRoles o libraries before
      → IsSome after.held
      → IsInstalledAsVerified o libraries before after

-- after `pack` with status 0
abbrev pub PackedIsInstalled : Type 0
PackedIsInstalled = (o : OutOfDirRequest) (before after : Folders) (text : List ℕ) → Packed o before after text → IsInstalled o before after
