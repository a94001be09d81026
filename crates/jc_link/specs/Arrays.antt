-- The arrays that exist from the start, by package and then in the order of the StaticField
-- component (JCVM 2.2, section 6.10). The first has handle 1.
use Rattle.std.specs.Prelude.{ℕ, List, map, sum_by, length, flat_map, ◌==◌, if◌then◌else◌}
use Rattle.jc_base.specs.declared.ty.Ty.{Ty}
use Rattle.jc_base.specs.declared.ty.Ty.TheVariants.{ArrBool, ArrByte, ArrShort, ArrInt}
use Rattle.jc_base.specs.declared.record.ArrayRec.{ArrayRec}
use Rattle.cap_method.specs.StaticFormat.{Array}
use Rattle.cap_package.specs.PackageRecord.{PackageRecord, initial_arrays}
use Rattle.jc_link.specs.Words.{element_words}

-- the type of an array by the number of the type of its elements
abbrev pub array_type : ℕ → Ty
array_type kind = if kind == 2 then ArrBool else (if kind == 3 then ArrByte else (if kind == 4 then ArrShort else ArrInt))

abbrev pub array_record : Array → ArrayRec
array_record a = record { kind = array_type a.kind; initial = element_words a.kind a.values }

-- the initial arrays of all packages
abbrev pub array_records : List PackageRecord → List ArrayRec
array_records ps = map array_record (flat_map initial_arrays ps)

-- the cells of arrays: one for each word
abbrev pub initial_cells : List ArrayRec → ℕ
initial_cells = sum_by (λ (a : ArrayRec). length a.initial)
