-- What `list` may answer, by the package in its folder.
use Rattle.std.specs.Prelude.{◌≡◌, ℕ, List, string_bytes}
use Rattle.cap_files.specs.Folder.{Folders}
use Rattle.cap_listing.specs.Methods.{methods_of}
use Rattle.cap_listing.specs.Text.{Lists}
use Rattle.cap_package.specs.PackageRecord.{PackageRecord}
use Rattle.capcheck_core.specs.declared.verdict.Verdict.{Verdict}
use Rattle.capcheck_core.specs.declared.verdict.Verdict.TheVariants.{Done, Memory}
use Rattle.capcheck_core.specs.OverPackage.{OwnOne, OverPackage}

-- the text is the listing of the package's methods with code
abbrev pub IsListing : PackageRecord → Verdict → Type 0
IsListing p (Done text) = Lists (methods_of p) (string_bytes text)
IsListing p Memory = Unit {0}
IsListing p _ = ⊥

-- its step: it lists them, and leaves the folders as they are
abbrev pub ListsMethods : OwnOne
ListsMethods parts p before after verdict = (after ≡ before) × IsListing p verdict

-- the folders are as they were when it began, and as they are afterwards
abbrev pub ListsPackage : List ℕ → Folders → Folders → Verdict → Type 0
ListsPackage dir before after verdict = OverPackage ListsMethods dir before after verdict
