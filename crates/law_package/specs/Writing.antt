-- What is written, component by component, when code is laid for the methods of a package.
use Rattle.std.specs.Prelude.{◌≡◌, ◌<◌, ◌↔◌, ℕ, List, [], ◌∷◌, length, map, All, Option, Some, None, IfSome}
use Rattle.std.specs.Prelude.{option_map, ◌==◌, if◌then◌else◌}
use Rattle.cap_desc.specs.DescriptorFormat.{MethodDescriptor}
use Rattle.cap_desc.specs.Members.{methods_of}
use Rattle.cap_components.specs.Parts.{held}
use Rattle.cap_components.specs.PackageRecord.{PackageRecord, names_interface}
use Rattle.cap_package.specs.Customs.{CustomItems}
use Rattle.cap_bytes.specs.Renewal.{AreSame}
use Rattle.cap_renewal.specs.declared.new_methods.NewMethod.{NewMethod}
use Rattle.cap_renewal.specs.NewMethods.{to}
use Rattle.cap_renewal.specs.AppletEdits.{renewed_applet}
use Rattle.cap_renewal.specs.PoolEdits.{renewed_entry}
use Rattle.cap_renewal.specs.ClassEdits.{renewed_class}
use Rattle.cap_renewal.specs.ExportEdits.{renewed_exported}
use Rattle.cap_renewal.specs.DescriptorEdits.{renewed_descriptor}
use Rattle.cap_laying.specs.declared.member.Body.{Body}
use Rattle.cap_laying.specs.declared.member.Body.TheVariants.{Code, Header}
use Rattle.cap_laying.specs.declared.member.WrittenMember.{WrittenMember}
use Rattle.cap_laying.specs.Blocks.{blocks, entries_of_blocks}
use Rattle.cap_laying.specs.Members.{MayBeWritten, new_places, written_info}
use Rattle.jc_decode.specs.declared.symbols.Laid.{Laid}
use Rattle.law_package.specs.Changes.{FormerMethod, sources}
use Rattle.law_package.specs.Written.{lead_bytes}
use Rattle.law_package.specs.Rewritten.{HasSameCounts, IsCustom}

-- ---- the methods that are written

-- the first entry of the handler table that a method had, where it had one
abbrev pub first_handler : MethodDescriptor → Option ℕ
first_handler m = if m.handler_count == 0 then None else Some m.handler_index

-- the code that is laid for a method, or the header that stood at its offset
abbrev pub IsBodyOf : List ℕ → FormerMethod → Body → Type 0
IsBodyOf info s (Code laid) = s.laid ≡ Some laid.now
IsBodyOf info s (Header header) = (s.laid ≡ None) × (header.now ≡ lead_bytes info s.method.method_offset)

-- a method as it is written
pub record IsMemberOf (info : List ℕ) (s : FormerMethod) (m : WrittenMember) : Type 0 where
  pub offset : m.offset ≡ s.method.method_offset
  pub handlers : m.handlers_from ≡ first_handler s.method
  pub body : IsBodyOf info s m.body

abbrev pub AreMembersOf : List ℕ → List FormerMethod → List WrittenMember → Type 0
AreMembersOf info [] [] = Unit {0}
AreMembersOf info [] (m ∷ ms) = ⊥
AreMembersOf info (s ∷ ss) [] = ⊥
AreMembersOf info (s ∷ ss) (m ∷ ms) = IsMemberOf info s m × AreMembersOf info ss ms

-- the code needs no more stack than one byte tells
abbrev pub LaidHasSmallStack : FormerMethod → Type 0
LaidHasSmallStack s = IfSome s.laid (λ laid. laid.max_stack < 256)

-- where each method is written, by its former offset
abbrev pub places : PackageRecord → List WrittenMember → List (Option NewMethod)
places p ms = new_places (length p.methods.info) (length p.methods.handlers) ms

-- ---- the components

-- q is what is written: the Method component anew, offsets of methods renewed in the others, and all else as it was
pub record IsWrittenAnew (p : PackageRecord) (laid : List (Option Laid)) (ms : List WrittenMember) (q : PackageRecord) : Type 0 where
  pub each : length laid ≡ length (methods_of p.description.items.classes)
  pub stacks : All LaidHasSmallStack (sources p laid)
  pub members : AreMembersOf p.methods.info (sources p laid) ms
  pub may : MayBeWritten (length p.methods.info) ms
  pub info : q.methods.info ≡ written_info (length p.methods.info) (length p.methods.handlers) ms
  pub handlers : q.methods.handlers ≡ entries_of_blocks (places p ms) (blocks (length p.methods.handlers) ms)
  pub applets : q.applets ≡ option_map (map (renewed_applet (to (places p ms)))) p.applets
  pub pool : q.pool ≡ map (renewed_entry (to (places p ms))) p.pool
  pub classes : q.classes ≡ map (renewed_class (to (places p ms))) p.classes
  pub export : q.export ≡ option_map (map (renewed_exported (to (places p ms)))) p.export
  pub description : q.description.items ≡ renewed_descriptor (names_interface p.classes) (places p ms) p.description.items
  pub types : AreSame p.description.items.types_start (length p.description.info) p.description.info q.description.info
  pub long : length q.description.info ≡ length p.description.info
  pub header : q.header ≡ p.header
  pub imports : q.imports ≡ p.imports
  pub statics : q.statics ≡ p.statics
  pub directory : HasSameCounts p.directory q.directory
  pub customs : (tag : ℕ) (c : CustomItems) → IsCustom p tag c ↔ IsCustom q tag c
  pub debug : held q.parts 12 ≡ None
