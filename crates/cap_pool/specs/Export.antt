-- The records of the Export component, as its items.
use Rattle.std.specs.Prelude.{ℕ, List, [], length, Option, slice_get, option_and_then}
use Rattle.cap_bytes.specs.Grammar.{repeat}
use Rattle.cap_bytes.specs.Table.{numbers}
use Rattle.cap_bytes.specs.Taking.{given}
use Rattle.cap_pool.specs.declared.export_record.Export.{Export}
use Rattle.cap_pool.specs.declared.lists.ExportClass.{ExportClass}
use Rattle.cap_pool.specs.declared.lists.ExportedClass.{ExportedClass}
use Rattle.cap_pool.specs.declared.lists.ExportedClasses.{ExportedClasses}
use Rattle.cap_pool.specs.ExportFormat.{Exported, class_export_info}

abbrev pub exported_class_seen : ExportedClass → Exported
exported_class_seen c = record { class_offset = c.class.class_offset; fields = numbers c.fields; methods = numbers c.methods }

abbrev pub exported_left : ExportedClasses → List Exported
exported_left x = given [] (repeat x.left class_export_info) x.items

abbrev pub export_seen : Export → List Exported
export_seen x = exported_left x.classes

-- what the Export says of a class before the offsets
abbrev pub head_of : Exported → ExportClass
head_of c = record { class_offset = c.class_offset; field_count = length c.fields; method_count = length c.methods }

-- the offset of a class's static field or method with a token
abbrev pub field_offset_in : List Exported → ℕ → ℕ → Option ℕ
field_offset_in cs class n = option_and_then (λ (c : Exported). slice_get c.fields n) (slice_get cs class)

abbrev pub method_offset_in : List Exported → ℕ → ℕ → Option ℕ
method_offset_in cs class n = option_and_then (λ (c : Exported). slice_get c.methods n) (slice_get cs class)
