-- The Class component (JCVM 2.2, section 6.8) with the offsets in the dispatch tables renewed.
use Rattle.std.specs.Prelude.{◌+◌, ◌*◌, ℕ, List, [], ◌∷◌, ◌++◌, length, map, if◌then◌else◌}
use Rattle.cap_class.specs.ClassFormat.{Class, is_interface}
use Rattle.cap_bytes.specs.Edit.{Edit}
use Rattle.cap_renewal.specs.Along.{table_edits}

abbrev pub renewed_class : (ℕ → ℕ) → Class → Class
renewed_class to c = record c { public = map to c.public; visible = map to c.visible }

-- the public table stands after the ten bytes of a class record's numbers, the package-visible one after it; an
-- interface has none
abbrev pub class_edits : (ℕ → ℕ) → Class → List Edit
class_edits to c = if is_interface c.flags then []
    else table_edits to (c.offset + 10) c.public ++ table_edits to (c.offset + 10 + 2 * length c.public) c.visible

abbrev pub classes_edits : (ℕ → ℕ) → List Class → List Edit
classes_edits to [] = []
classes_edits to (c ∷ cs) = class_edits to c ++ classes_edits to cs
