-- What it is that a package is another but for the code of its methods: for their headers, their handlers, where they stand, the
-- sizes of components, ReferenceLocation, Debug and the target index.
use Rattle.std.specs.Prelude.{◌≡◌, ◌+◌, ◌↔◌, ℕ, Bool, List, length, drop, map, sum_by, All, Option, Some, None}
use Rattle.std.specs.Prelude.{option_map, if◌then◌else◌}
use Rattle.cap_frame.specs.Tags.{index_aid}
use Rattle.cap_frame.specs.DirectoryFormat.{DirectoryItems}
use Rattle.cap_desc.specs.DescriptorFormat.{MethodDescriptor, ClassDescriptor}
use Rattle.cap_desc.specs.Members.{methods_of}
use Rattle.cap_components.specs.Parts.{held}
use Rattle.cap_components.specs.Descriptions.{Description}
use Rattle.cap_components.specs.PackageRecord.{PackageRecord, names_interface}
use Rattle.cap_package.specs.Customs.{CustomItems, custom_in}
use Rattle.cap_renewal.specs.AppletEdits.{renewed_applet}
use Rattle.cap_renewal.specs.PoolEdits.{renewed_entry}
use Rattle.cap_renewal.specs.ClassEdits.{renewed_class}
use Rattle.cap_renewal.specs.ExportEdits.{renewed_exported}
use Rattle.jc_decode.specs.declared.symbols.Laid.{Laid}
use Rattle.law_package.specs.Changes.{changes, now_at}
use Rattle.law_package.specs.Written.{IsMethodWritten, size_written, handlers_in, methods_begin}

-- ---- the Descriptor

-- a method but for what tells of its code
abbrev pub bare_method : MethodDescriptor → MethodDescriptor
bare_method m = record m { method_offset = 0; bytecode_count = 0; handler_count = 0; handler_index = 0 }

-- a class with such methods; those of an interface stay, where `interfaces` are the references of the interfaces
abbrev pub bare_class : (ℕ → Bool) → ClassDescriptor → ClassDescriptor
bare_class interfaces c = record c { methods = if interfaces c.class_ref then c.methods else map bare_method c.methods }

-- the same classes, fields, methods and types
pub record HasSameDescription (interfaces : ℕ → Bool) (d e : Description) : Type 0 where
  pub classes : map (bare_class interfaces) e.items.classes ≡ map (bare_class interfaces) d.items.classes
  pub start : e.items.types_start ≡ d.items.types_start
  pub pool_types : e.items.pool_types ≡ d.items.pool_types
  pub types : drop d.items.types_start e.info ≡ drop d.items.types_start d.info
  pub long : length e.info ≡ length d.info

-- ---- the Directory, and the components that it names

-- the same numbers of imports, applets and static fields
abbrev pub HasSameCounts : DirectoryItems → DirectoryItems → Type 0
HasSameCounts d e = record e { sizes = d.sizes; customs = d.customs } ≡ d

-- a custom component, and not the target index
pub record IsCustom (p : PackageRecord) (tag : ℕ) (c : CustomItems) : Type 0 where
  pub there : custom_in p tag ≡ Some c
  pub other : ¬ ((tag ≡ 128) × (c.aid ≡ index_aid))

-- ---- the package

-- q is p with the code that is laid
pub record IsRewritten (p : PackageRecord) (laid : List (Option Laid)) (q : PackageRecord) : Type 0 where
  pub header : q.header ≡ p.header
  pub imports : q.imports ≡ p.imports
  pub statics : q.statics ≡ p.statics
  pub directory : HasSameCounts p.directory q.directory
  pub customs : (tag : ℕ) (c : CustomItems) → IsCustom p tag c ↔ IsCustom q tag c
  pub debug : held q.parts 12 ≡ None
  -- what names methods names those of the same positions
  pub applets : q.applets ≡ option_map (map (renewed_applet (now_at (changes p laid q)))) p.applets
  pub pool : q.pool ≡ map (renewed_entry (now_at (changes p laid q))) p.pool
  pub classes : q.classes ≡ map (renewed_class (now_at (changes p laid q))) p.classes
  pub export : q.export ≡ option_map (map (renewed_exported (now_at (changes p laid q)))) p.export
  pub description : HasSameDescription (names_interface p.classes) p.description q.description
  -- the methods, with nothing between or after them
  pub each : length laid ≡ length (methods_of p.description.items.classes)
  pub written : All (IsMethodWritten p q (changes p laid q)) (changes p laid q)
  pub long : length q.methods.info ≡ methods_begin q + sum_by (size_written q) (changes p laid q)
  pub handlers : length q.methods.handlers ≡ sum_by handlers_in (changes p laid q)
