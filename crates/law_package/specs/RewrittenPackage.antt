-- A package whose methods are written anew is a package again.
use Rattle.std.specs.Prelude.{◌≡◌, ℕ, List, length, Option, Some, None}
use Rattle.cap_bytes.specs.Spelling.{Stands}
use Rattle.cap_frame.specs.DirectoryFormat.{DirectoryItems}
use Rattle.cap_frame.specs.Directory.{size_in}
use Rattle.cap_frame.specs.Frame.{component}
use Rattle.cap_components.specs.Parts.{Lent, held}
use Rattle.cap_components.specs.PackageRecord.{PackageRecord}
use Rattle.cap_components.specs.Saying.{AreSaid}
use Rattle.cap_package.specs.StandsFor.{StandsFor}
use Rattle.cap_laying.specs.declared.member.WrittenMember.{WrittenMember}
use Rattle.jc_decode.specs.declared.symbols.Laid.{Laid}
use Rattle.law_package.specs.Laying.{AreLaidFor}
use Rattle.law_package.specs.Rewritten.{IsRewritten}
use Rattle.law_package.specs.Writing.{IsWrittenAnew}

-- a size is that of the info in a component's file, and 0 where there is no file
abbrev pub IsSizeOf : ℕ → ℕ → Option (List ℕ) → Type 0
IsSizeOf tag size None = size ≡ 0
IsSizeOf tag size (Some file) = (info : List ℕ) × Stands (component tag) file info × (length info ≡ size)

-- the sizes in a Directory are those of the parts
abbrev pub HasSizes : List Lent → DirectoryItems → Type 0
HasSizes parts d = (tag size : ℕ) → size_in d tag ≡ Some size → IsSizeOf tag size (held parts tag)

-- parts that say, component by component, what a package says with other code stand for it
abbrev pub RewrittenStands : Type 0
RewrittenStands = (parts new_parts : List Lent) (p q : PackageRecord) (laid : List (Option Laid))
    → StandsFor parts p → AreLaidFor p laid → IsRewritten p laid q → AreSaid new_parts q → HasSizes new_parts q.directory
    → StandsFor new_parts q

-- what is written, component by component, is the package with the code that is laid
abbrev pub WritingRewrites : Type 0
WritingRewrites = (parts : List Lent) (p q : PackageRecord) (laid : List (Option Laid)) (ms : List WrittenMember)
    → StandsFor parts p → AreLaidFor p laid → IsWrittenAnew p laid ms q → IsRewritten p laid q
