-- A package whose methods are written anew: which parts stand for it.
use Rattle.std.specs.Prelude.{◌≡◌, ◌≤◌, ◌<◌, ◌⊎◌, ℕ, List, ◌++◌, length, Option, None}
use Rattle.cap_bytes.specs.Spelling.{Stands}
use Rattle.cap_pool.specs.LocationFormat.{LocationItems, locations_info}
use Rattle.cap_components.specs.Parts.{Lent, held}
use Rattle.cap_components.specs.PackageRecord.{PackageRecord}
use Rattle.cap_package.specs.StandsFor.{StandsFor}
use Rattle.jc_decode.specs.declared.symbols.Laid.{Laid}
use Rattle.law_package.specs.Rewritten.{IsRewritten}
use Rattle.cap_renewal.specs.declared.new_methods.NewMethod.{NewMethod}
use Rattle.cap_laying.specs.Distances.{distances}
use Rattle.cap_laying.specs.declared.member.WrittenMember.{WrittenMember}
use Rattle.cap_method.specs.MethodFormat.{methods_info}
use Rattle.cap_laying.specs.Blocks.{blocks, entries_of_blocks}
use Rattle.cap_laying.specs.Member.{by_offset}
use Rattle.cap_laying.specs.Members.{new_places, start_of, written_info, written_size}
use Rattle.cap_laying.specs.References.{block_catches, method_indices, written_references}
use Rattle.cap_laying.specs.Standing.{AllStand}
use Rattle.cap_write.specs.declared.files.WriteEnd.{WriteEnd}
use Rattle.cap_write.specs.declared.files.WriteEnd.TheVariants.{PartLong, Memory}
use Rattle.cap_write.specs.WrittenMethods.{AreMembersFor, IsLong}
use Rattle.cap_write.specs.NewIndex.{Index, IsNewIndex}
use Rattle.cap_write.specs.Files.{IsAppletFile, IsClassFile, IsDescriptorFile, IsDirectoryFile, IsExportFile, IsFramed, IsPoolFile}
use Rattle.cap_write.specs.Files.{IsPresent, index_file}
use Rattle.cap_write.specs.Filed.{IsRising}

-- the parts, component by component, where methods stand at new places, and the Method and the ReferenceLocation component
-- have these infos
pub record ArePartsOf
    (p : PackageRecord) (news : List (Option NewMethod)) (methods references : List ℕ) (index : Index) (parts : List Lent)
    : Type 0 where
  pub header : held parts 1 ≡ held p.parts 1
  pub directory : IsPresent (IsDirectoryFile p methods references index) (held parts 2)
  pub applets : IsAppletFile p news (held parts 3)
  pub imports : held parts 4 ≡ held p.parts 4
  pub pool : IsPoolFile p news (held parts 5)
  pub classes : IsClassFile p news (held parts 6)
  pub methods_file : IsPresent (IsFramed 7 methods) (held parts 7)
  pub statics : held parts 8 ≡ held p.parts 8
  pub locations : IsPresent (IsFramed 9 references) (held parts 9)
  pub export : IsExportFile p news (held parts 10)
  pub description : IsDescriptorFile p news (held parts 11)
  pub debug : held parts 12 ≡ None
  pub target_index : held parts 128 ≡ index_file p.parts index
  -- every other file, of a custom component too
  pub others : (tag : ℕ) → tag < 256 → (tag ≡ 0) ⊎ (12 < tag) → (tag ≡ 128 → ⊥) → held parts tag ≡ held p.parts tag
  pub rising : IsRising 0 parts 256

-- the places of pool indices in methods that are written: those of one byte, and those of two, of which those in the handler
-- table come first
abbrev pub locations_of : ℕ → ℕ → List WrittenMember → LocationItems
locations_of size room ms = record {
  byte = distances 0 (method_indices 1 (start_of room ms) (by_offset size ms));
  byte2 = distances 0 (block_catches 1 (blocks room ms) ++ method_indices 2 (start_of room ms) (by_offset size ms));
}

-- the methods of an info of so many bytes, with a handler table of so many entries, are written anew in these parts
pub record AreWritten (p : PackageRecord) (size room : ℕ) (ms : List WrittenMember) (index : Index) (parts : List Lent) : Type 0 where
  pub short : written_size size room ms ≤ 65535
  -- each method stands at its new offset, with its code and the numbers that the Descriptor tells of it
  pub stand : AllStand size room ms ms
  pub handlers : Stands methods_info (written_info size room ms) (entries_of_blocks (new_places size room ms) (blocks room ms))
  pub locations : Stands locations_info (written_references size room ms) (locations_of size room ms)
  pub files : ArePartsOf p (new_places size room ms) (written_info size room ms) (written_references size room ms) index parts

-- the parts are those of the package with its methods written anew, each with its element of the list
pub record IsWritten (p : PackageRecord) (laid : List (Option Laid)) (parts : List Lent) : Type 0 where
  pub members : List WrittenMember
  pub are : AreMembersFor p laid members
  pub index : Index
  pub indexed : IsNewIndex p laid index
  pub written : AreWritten p (length p.methods.info) (length p.methods.handlers) members index parts

-- the parts stand for a package, and it is the former one with the code that is laid
pub record HaveRewritten (p : PackageRecord) (laid : List (Option Laid)) (parts : List Lent) : Type 0 where
  pub made : PackageRecord
  pub rewritten : IsRewritten p laid made
  pub stands : StandsFor parts made

-- the info of the Method component would be too long
pub record IsPartTooLong (p : PackageRecord) (laid : List (Option Laid)) (n : ℕ) : Type 0 where
  pub members : List WrittenMember
  pub are : AreMembersFor p laid members
  pub long : IsLong (length p.methods.info) (length p.methods.handlers) members n

abbrev pub TellsWriteEnd : PackageRecord → List (Option Laid) → WriteEnd → Type 0
TellsWriteEnd p laid (PartLong n) = IsPartTooLong p laid n
TellsWriteEnd p laid Memory = Unit {0}
