-- The Export component (JCVM 2.2, section 6.12): the class token is the position.
use Rattle.std.specs.Prelude.{ℕ, List}
use Rattle.cap_bytes.specs.Grammar.{Grammar, give, finish, u1, u2, table, counted, ◌>>=◌}

-- an exported class: its offset in Class, and the offsets of its static fields and methods by their tokens
pub record Exported : Type 0 where
  pub class_offset : ℕ
  pub fields : List ℕ
  pub methods : List ℕ

abbrev pub class_export_info : Grammar Exported
class_export_info = do
  class_offset ← u2
  field_count ← u1
  method_count ← u1
  fields ← table field_count
  methods ← table method_count
  give (record { class_offset = class_offset; fields = fields; methods = methods })

abbrev pub export_info : Grammar (List Exported)
export_info = do
  classes ← counted class_export_info
  end ← finish
  give classes
