-- Static fields, instance fields and elements of arrays (JCVM 2.2, chapter 7).
use Rattle.std.specs.Prelude.{ℕ, ◌+◌, ◌*◌, ℤ, pos, negsuc, Bool, true, ◌||◌, ◌==◌, if◌then◌else◌, nat_lt}
use Rattle.std.specs.Prelude.{List, [], ◌∷◌, Option, Some, None}
use Rattle.jc_base.specs.declared.ty.Ty.TheVariants.{Class}
use Rattle.jc_base.specs.declared.ty.Kind.{Kind}
use Rattle.jc_base.specs.declared.ty.Kind.TheVariants as fields
use Rattle.jc_base.specs.Class.{ClassTable}
use Rattle.jc_base.specs.Cell.{width}
use Rattle.jc_ops.specs.declared.operation.Holder.{Holder}
use Rattle.jc_ops.specs.declared.operation.Holder.TheVariants as holders
use Rattle.jc_ops.specs.declared.operation.StaticField.{StaticField}
use Rattle.jc_ops.specs.declared.operation.InstanceField.{InstanceField}
use Rattle.vm_arithmetic.specs.Arithmetic.{short_of_word}
use Rattle.vm_store.specs.declared.cell.ObjectKind.{ObjectKind}
use Rattle.vm_store.specs.declared.cell.ObjectKind.TheVariants.{References}
use Rattle.vm_store.specs.Kind.{kind_of_handle}
use Rattle.vm_store.specs.Cells.{Cells}
use Rattle.vm_store.specs.State.{State, Object, top}
use Rattle.vm_store.specs.Objects.{kinds, object_at, object_cells, element_count}
use Rattle.vm_store.specs.Value.{value_in, value_on, kept_value, with_object_value, with_static_value}
use Rattle.vm_step.specs.Objects.{kind_passes}
use Rattle.vm_step.specs.declared.ending.Exception.TheVariants as exceptions
use Rattle.vm_step.specs.Act.{Act, goes, raises, unless_null, if_some}
use Rattle.vm_step.specs.Numbers.{handle_at, short_at, dropped, pushed, replaced}

-- ---- static fields

abbrev pub with_static_read : {A : Type 0} → Cells A → StaticField → State A → State A
with_static_read k f s = pushed s (value_in k f.kind s.statics f.slot)

abbrev pub with_static_write : {A : Type 0} → Cells A → StaticField → State A → State A
with_static_write k f s = with_static_value (dropped s (width f.kind)) f.slot (kept_value k f.kind (value_on k f.kind (top s).stack))

-- ---- instance fields

-- where the object is looked for, under so many cells, and how many cells it takes there
abbrev pub held_handle : {A : Type 0} → Cells A → Holder → ℕ → State A → ℕ
held_handle k holders.Stack under s = handle_at k (top s).stack under
held_handle k holders.This under s = handle_at k (top s).registers 0

abbrev pub holder_width : Holder → ℕ
holder_width holders.Stack = 1
holder_width holders.This = 0

abbrev pub with_field_read : {A : Type 0} → Cells A → InstanceField → Holder → ℕ → State A → State A
with_field_read k f holders.Stack h s = replaced s 1 (value_in k f.kind (object_cells s h) f.cell)
with_field_read k f holders.This h s = pushed s (value_in k f.kind (object_cells s h) f.cell)

abbrev pub field_read_act : {A : Type 0} → Cells A → InstanceField → Holder → State A → Act A
field_read_act k f holder s = unless_null (held_handle k holder 0 s) (λ h. goes (with_field_read k f holder h s))

abbrev pub with_field_write : {A : Type 0} → Cells A → InstanceField → Holder → ℕ → State A → State A
with_field_write k f holder h s =
    with_object_value (dropped s (width f.kind + holder_width holder)) h f.cell (kept_value k f.kind (value_on k f.kind (top s).stack))

abbrev pub field_write_act : {A : Type 0} → Cells A → InstanceField → Holder → State A → Act A
field_write_act k f holder s = unless_null (held_handle k holder (width f.kind) s) (λ h. goes (with_field_write k f holder h s))

-- ---- arrays

abbrev pub element_count_in : {A : Type 0} → Option (Object A) → ℕ
element_count_in None = 0
element_count_in (Some o) = element_count o

-- how many elements the array of a handle has
abbrev pub elements_of : {A : Type 0} → State A → ℕ → ℕ
elements_of s h = element_count_in (object_at s h)

-- the index of an element, which an array of so many elements has to have
abbrev pub element_index : ℤ → ℕ → Option ℕ
element_index (pos i) count = if nat_lt i count then Some i else None
element_index (negsuc i) count = None

-- what is done with that element
abbrev pub at_element : {A : Type 0} → ℤ → ℕ → (ℕ → Act A) → Act A
at_element index count act = if_some exceptions.ArrayIndex (element_index index count) act

-- the index is on the array
abbrev pub array_read_act : {A : Type 0} → Cells A → Kind → State A → Act A
array_read_act k kind s =
    unless_null (handle_at k (top s).stack 1)
    (λ h. at_element (short_at k (top s).stack 0) (elements_of s h)
    (λ i. goes (replaced s 2 (value_in k kind (object_cells s h) (i * width kind)))))

abbrev pub takes_element : ClassTable → List ObjectKind → Option ObjectKind → ℕ → Bool
takes_element t ks (Some (References class)) value = value == 0 || kind_passes t (Class class) (kind_of_handle ks value)
takes_element t ks array value = true

-- whether an array may keep a value: one of references keeps null and the instances of its class or interface
abbrev pub may_keep : {A : Type 0} → Cells A → ClassTable → State A → ℕ → Bool
may_keep k t s h = takes_element t (kinds s) (kind_of_handle (kinds s) h) (handle_at k (top s).stack 0)

abbrev pub keeps_kind : {A : Type 0} → Cells A → ClassTable → Kind → State A → ℕ → Bool
keeps_kind k t fields.Ref s h = may_keep k t s h
keeps_kind k t kind s h = true

abbrev pub with_element : {A : Type 0} → Cells A → Kind → ℕ → ℕ → State A → State A
with_element k kind h i s =
    with_object_value (dropped s (width kind + 2)) h (i * width kind) (kept_value k kind (value_on k kind (top s).stack))

-- the value is on the index, and that on the array
abbrev pub array_write_act : {A : Type 0} → Cells A → ClassTable → Kind → State A → Act A
array_write_act k t kind s =
    unless_null (handle_at k (top s).stack (width kind + 1))
    (λ h. at_element (short_at k (top s).stack (width kind)) (elements_of s h)
    (λ i. if keeps_kind k t kind s h then goes (with_element k kind h i s) else raises exceptions.ArrayStore))

abbrev pub array_length_act : {A : Type 0} → Cells A → State A → Act A
array_length_act k s =
    unless_null (handle_at k (top s).stack 0)
    (λ h. goes (replaced s 1 (k.short (short_of_word (elements_of s h)) ∷ [])))
