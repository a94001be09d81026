-- The Export component (JCVM 2.2, section 6.12) with the offsets of the static methods renewed.
use Rattle.std.specs.Prelude.{◌+◌, ◌*◌, ℕ, List, length, map}
use Rattle.cap_pool.specs.ExportFormat.{Exported}
use Rattle.cap_bytes.specs.Edit.{Edit}
use Rattle.cap_renewal.specs.Along.{along, table_edits}

abbrev pub renewed_exported : (ℕ → ℕ) → Exported → Exported
renewed_exported to c = record { class_offset = c.class_offset; fields = c.fields; methods = map to c.methods }

-- the methods stand after the offset of the class, the two counts and the fields
abbrev pub exported_edits : (ℕ → ℕ) → ℕ → Exported → List Edit
exported_edits to at c = table_edits to (at + (4 + 2 * length c.fields)) c.methods

abbrev pub exported_width : Exported → ℕ
exported_width c = 4 + 2 * length c.fields + 2 * length c.methods

-- the classes stand after their count
abbrev pub export_edits : (ℕ → ℕ) → List Exported → List Edit
export_edits to classes = along (exported_edits to) exported_width 1 classes
