-- What `show` may answer, by the package in its folder.
use Rattle.std.specs.Prelude.{◌≡◌, ℕ, List, string_bytes}
use Rattle.cap_files.specs.Folder.{Folders}
use Rattle.cap_package.specs.PackageRecord.{PackageRecord}
use Rattle.cap_text.specs.Table.{component_table}
use Rattle.capcheck_core.specs.declared.verdict.Verdict.{Verdict}
use Rattle.capcheck_core.specs.declared.verdict.Verdict.TheVariants.{Done, Memory}
use Rattle.capcheck_core.specs.OverPackage.{OwnOne, OverPackage}

-- the text is the component table of the package
abbrev pub IsTable : PackageRecord → Verdict → Type 0
IsTable p (Done text) = string_bytes text ≡ component_table p
IsTable p Memory = Unit {0}
IsTable p _ = ⊥

-- its step: it tells the table, and leaves the folders as they are
abbrev pub ShowsTable : OwnOne
ShowsTable parts p before after verdict = (after ≡ before) × IsTable p verdict

-- the folders are as they were when it began, and as they are afterwards
abbrev pub Shows : List ℕ → Folders → Folders → Verdict → Type 0
Shows dir before after verdict = OverPackage ShowsTable dir before after verdict
