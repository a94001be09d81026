-- What operations on objects find by the handles that they are given, where these are not null.
use Rattle.std.specs.Prelude.{◌≡◌, ℕ, ◌+◌, ◌<◌, ◌≤◌, ◌==◌, MatchBool, length, IsSomeAnd, ⊤}
use Rattle.jc_base.specs.declared.ty.Kind.{Kind}
use Rattle.jc_base.specs.declared.ty.Kind.TheVariants as fields
use Rattle.jc_base.specs.Class.{ClassTable}
use Rattle.jc_base.specs.Cell.{width}
use Rattle.jc_ops.specs.declared.operation.Holder.{Holder}
use Rattle.jc_ops.specs.declared.operation.Holder.TheVariants as holders
use Rattle.jc_ops.specs.declared.operation.InstanceField.{InstanceField}
use Rattle.vm_store.specs.Kind.{element_width}
use Rattle.vm_store.specs.Cells.{Cells}
use Rattle.vm_store.specs.State.{State, top}
use Rattle.vm_store.specs.Objects.{object_at, object_cells}
use Rattle.vm_step.specs.Instance.{IsRecorded}
use Rattle.vm_step.specs.Numbers.{handle_at}

-- null, or this holds
abbrev pub IsNullOr : ℕ → Type 0 → Type 0
IsNullOr handle fact = MatchBool (handle == 0) ⊤ fact

-- an object, and what it is of has a record
abbrev pub IsObject : {A : Type 0} → ClassTable → State A → ℕ → Type 0
IsObject t s handle = IsSomeAnd (object_at s handle) (λ o. IsRecorded t o.kind)

-- an array whose elements take as many cells as a value of the kind
abbrev pub IsArrayFor : {A : Type 0} → Kind → State A → ℕ → Type 0
IsArrayFor kind s handle = IsSomeAnd (object_at s handle) (λ o. element_width o.kind ≡ width kind)

-- an object that has the cells of the field
abbrev pub HasField : {A : Type 0} → InstanceField → State A → ℕ → Type 0
HasField f s handle = f.cell + width f.kind ≤ length (object_cells s handle)

-- the object of a field is under so many cells of the stack, or in register 0
abbrev pub HasHolder : {A : Type 0} → Holder → ℕ → State A → Type 0
HasHolder holders.Stack under s = under < length (top s).stack
HasHolder holders.This under s = 0 < length (top s).registers

-- what a value on top and an array of references are of is known, so that they can be compared
abbrev pub MayCompare : {A : Type 0} → Cells A → ClassTable → Kind → State A → ℕ → Type 0
MayCompare k t fields.Ref s array =
    IsObject t s array
    × IsNullOr (handle_at k (top s).stack 0) (IsObject t s (handle_at k (top s).stack 0))
MayCompare k t _ s array = ⊤
