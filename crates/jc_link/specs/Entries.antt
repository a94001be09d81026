-- Where the static fields and the methods without dispatch stand that a constant pool names (JCVM 2.2, section 6.7.3).
use Rattle.std.specs.Prelude.{ℕ, Option, Some, option_map, option_and_then, List}
use Rattle.cap_pool.specs.declared.pool_record.StaticReference.{StaticReference}
use Rattle.cap_pool.specs.declared.pool_record.StaticReference.TheVariants.{Internal, External}
use Rattle.cap_package.specs.PackageRecord.{PackageRecord}
use Rattle.jc_resolve.specs.declared.fault.RecordPlace.{RecordPlace}
use Rattle.jc_resolve.specs.References.{met_by}
pub use Rattle.jc_resolve.specs.References.{exported_field, exported_method}

-- an offset in a package
abbrev pub place_in : ℕ → ℕ → RecordPlace
place_in k offset = record { «package» = k; offset = offset }

-- in the package that meets an import, when the offset is told that the package exports
abbrev pub exported_place : List PackageRecord → (ℕ → ℕ → ℕ → Option ℕ) → ℕ → ℕ → ℕ → ℕ
    → Option RecordPlace
exported_place ps exported k import class token =
    option_and_then (λ j. option_map (place_in j) (exported j class token)) (met_by ps k import)

abbrev pub place_by : List PackageRecord → (ℕ → ℕ → ℕ → Option ℕ) → ℕ → StaticReference → Option RecordPlace
place_by ps exported k (Internal offset) = Some (place_in k offset)
place_by ps exported k (External import class token) = exported_place ps exported k import class token

-- where the static field or the method stands to which a reference of a package leads
unfoldable pub field_place : List PackageRecord → ℕ → StaticReference → Option RecordPlace
field_place ps k reference = place_by ps (exported_field ps) k reference

unfoldable pub method_place : List PackageRecord → ℕ → StaticReference → Option RecordPlace
method_place ps k reference = place_by ps (exported_method ps) k reference
