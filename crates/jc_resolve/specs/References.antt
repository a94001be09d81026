-- The package that meets an import, and the class that a class reference names (JCVM 2.2, sections 4.3.7.1, 6.6, 6.7 and 6.12).
use Rattle.std.specs.Prelude.{◌≡◌, ℕ, Bool, List, take, Option, Some, option_map, option_and_then, position, slice_get, bytes_eq}
use Rattle.std.specs.Prelude.{nat_lt, nat_le, ◌==◌, ◌&&◌}
use Rattle.cap_bytes.specs.declared.class_reference.ClassReference.{ClassReference}
use Rattle.cap_bytes.specs.declared.class_reference.ClassReference.TheVariants.{Internal, External}
use Rattle.cap_bytes.specs.ClassReference.{reference_of}
use Rattle.cap_frame.specs.PackageFormat.{Package}
use Rattle.cap_pool.specs.Export.{field_offset_in, method_offset_in}
use Rattle.cap_pool.specs.ExportFormat.{Exported}
use Rattle.cap_package.specs.PackageRecord.{PackageRecord, aid, minor, major}
use Rattle.cap_package.specs.Agreement.{or_none}
use Rattle.jc_resolve.specs.declared.fault.RecordPlace.{RecordPlace}
use Rattle.jc_resolve.specs.Numbering.{class_at}

-- ---- imports

-- a package meets an import: an equal identifier, an equal major version, and a minor one at least as great
abbrev pub meets_import : Package → PackageRecord → Bool
meets_import asked p = bytes_eq (aid p) asked.aid && (major p == asked.major && nat_le asked.minor (minor p))

-- the import of a package with a token
abbrev pub import_of : List PackageRecord → ℕ → ℕ → Option Package
import_of ps k token = option_and_then (λ (p : PackageRecord). slice_get p.imports token) (slice_get ps k)

-- the package that meets an import: the first of the earlier ones that does
unfoldable pub met_by : List PackageRecord → ℕ → ℕ → Option ℕ
met_by ps k token = option_and_then (λ asked. position (meets_import asked) (take k ps)) (import_of ps k token)

-- ---- class references

-- the class that a package exports with a token
abbrev pub exported_class : List PackageRecord → ℕ → ℕ → Option Exported
exported_class ps k token = option_and_then (λ (p : PackageRecord). slice_get (or_none p.export) token) (slice_get ps k)

-- the offset of the static field or method that a package exports, by its class's token and its own
abbrev pub exported_field : List PackageRecord → ℕ → ℕ → ℕ → Option ℕ
exported_field ps k class token = option_and_then (λ (p : PackageRecord). field_offset_in (or_none p.export) class token) (slice_get ps k)

abbrev pub exported_method : List PackageRecord → ℕ → ℕ → ℕ → Option ℕ
exported_method ps k class token =
    option_and_then (λ (p : PackageRecord). method_offset_in (or_none p.export) class token) (slice_get ps k)

-- a class_ref with a clear high bit is the offset of a class of the package itself
abbrev pub is_internal : ℕ → Bool
is_internal reference = nat_lt reference 0x8000

-- where the class stands that is exported with a token
abbrev pub exported_offset : List PackageRecord → ℕ → ℕ → Option ℕ
exported_offset ps k token = option_map (λ (c : Exported). c.class_offset) (exported_class ps k token)

abbrev pub exported_place : List PackageRecord → ℕ → ℕ → Option RecordPlace
exported_place ps k token = option_map (λ offset. record { «package» = k; offset = offset }) (exported_offset ps k token)

-- where the class stands to which a reference of a package leads
abbrev pub place_referred : List PackageRecord → ℕ → ClassReference → Option RecordPlace
place_referred ps k (Internal offset) = Some (record { «package» = k; offset = offset })
place_referred ps k (External import class) = option_and_then (λ j. exported_place ps j class) (met_by ps k import)

-- the number of that class
unfoldable pub class_referred : List PackageRecord → ℕ → ClassReference → Option ℕ
class_referred ps k reference = option_and_then (class_at ps) (place_referred ps k reference)

-- the number of the class that a class_ref names
unfoldable pub class_named : List PackageRecord → ℕ → ℕ → Option ℕ
class_named ps k class_ref = class_referred ps k (reference_of class_ref)

-- the same by cases: an internal reference is the offset of a class of the package itself, an external one has the
-- token of an import and that of a class that the imported package exports
pub data Refers (ps : List PackageRecord) (k : ℕ) (reference : ClassReference) (c : ℕ) : Type 0 where
  internal :
      (offset : ℕ)
      → reference ≡ Internal offset
      → class_at ps (record { «package» = k; offset = offset }) ≡ Some c → Refers ps k reference c
  imported :
      (import class j offset : ℕ)
      → reference ≡ External import class
      → met_by ps k import ≡ Some j
      → exported_offset ps j class ≡ Some offset
      → class_at ps (record { «package» = j; offset = offset }) ≡ Some c → Refers ps k reference c
