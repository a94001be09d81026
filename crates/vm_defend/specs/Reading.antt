-- What is read of the state that a run has reached: the values of static fields, the classes of objects, and arrays of numbers.
use Rattle.std.specs.Prelude.{◌≡◌, ℕ, ◌+◌, ◌*◌, ℤ, ◌<◌, ◌≤◌, nat_lt, sum_by, if◌then◌else◌, List, Option}
use Rattle.std.specs.Prelude.{Some, None, slice_get, option_and_then, option_map, IsSomeAnd}
use Rattle.jc_base.specs.declared.ty.Ty.{Ty}
use Rattle.jc_base.specs.declared.ty.Ty.TheVariants.{ArrBool, ArrByte, ArrShort, ArrInt}
use Rattle.jc_base.specs.declared.ty.Kind.{Kind}
use Rattle.jc_base.specs.declared.ty.Kind.TheVariants as fields
use Rattle.jc_base.specs.declared.record.StaticRec.{StaticRec}
use Rattle.jc_base.specs.Cell.{width}
use Rattle.jc_base.specs.World.{Linked}
use Rattle.vm_store.specs.declared.cell.ObjectKind.{ObjectKind}
use Rattle.vm_store.specs.declared.cell.ObjectKind.TheVariants.{Instance, Booleans, Bytes, Shorts, Ints}
use Rattle.vm_store.specs.Cells.{Cells}
use Rattle.vm_store.specs.State.{State, Object}
use Rattle.vm_store.specs.Objects.{object_at, element_count}
use Rattle.vm_step.specs.declared.ending.Value.{Value}
use Rattle.vm_step.specs.declared.ending.Value.TheVariants as values
use Rattle.vm_step.specs.Numbers.{short_at, int_in, handle_at}

-- the value of a kind in the cells from a number on
abbrev pub value_at : {A : Type 0} → Cells A → Kind → List A → ℕ → Value
value_at k fields.Ref cells n = values.Ref (handle_at k cells n)
value_at k fields.Int cells n = values.Int (int_in k cells n)
value_at k kind cells n = values.Short (short_at k cells n)

-- the value of a static field, by its number in the world
abbrev pub static_value : {A : Type 0} → Cells A → Linked → ℕ → State A → Option Value
static_value k w n s = option_map (λ (f : StaticRec). value_at k f.kind s.statics f.slot) (slice_get w.statics n)

-- the cells of each static field lie among those of all
abbrev pub SlotsAreInside : Linked → Type 0
SlotsAreInside w =
    (n : ℕ) (f : StaticRec) → slice_get w.statics n ≡ Some f
    → f.slot + width f.kind ≤ sum_by (λ (g : StaticRec). width g.kind) w.statics

-- the class of which an object is an instance; an array has none
abbrev pub class_of_kind : ObjectKind → Option ℕ
class_of_kind (Instance class) = Some class
class_of_kind array = None

abbrev pub object_class : {A : Type 0} → State A → ℕ → Option ℕ
object_class {A} s h = option_and_then (λ (o : Object A). class_of_kind o.kind) (object_at s h)

-- the type of an array of numbers
abbrev pub numbers_of_kind : ObjectKind → Option Ty
numbers_of_kind Booleans = Some ArrBool
numbers_of_kind Bytes = Some ArrByte
numbers_of_kind Shorts = Some ArrShort
numbers_of_kind Ints = Some ArrInt
numbers_of_kind kind = None

abbrev pub array_kind : {A : Type 0} → State A → ℕ → Option Ty
array_kind {A} s h = option_and_then (λ (o : Object A). numbers_of_kind o.kind) (object_at s h)

abbrev pub if_numbers : {X : Type 0} → Option Ty → X → Option X
if_numbers None x = None
if_numbers (Some ty) x = Some x

-- how many elements an array of numbers has
abbrev pub array_length : {A : Type 0} → State A → ℕ → Option ℕ
array_length {A} s h = option_and_then (λ (o : Object A). if_numbers (numbers_of_kind o.kind) (element_count o)) (object_at s h)

-- the number in an element, which an int keeps in two cells
abbrev pub element_in : {A : Type 0} → Cells A → ObjectKind → List A → ℕ → ℤ
element_in k Ints cells i = int_in k cells (i * 2)
element_in k kind cells i = short_at k cells i

abbrev pub element_of : {A : Type 0} → Cells A → ℕ → Object A → Option ℤ
element_of k i o =
    if nat_lt i (element_count o) then if_numbers (numbers_of_kind o.kind) (element_in k o.kind o.cells i) else None

abbrev pub array_value : {A : Type 0} → Cells A → State A → ℕ → ℕ → Option ℤ
array_value k s h i = option_and_then (element_of k i) (object_at s h)

-- the object has the element
abbrev pub HasElement : {A : Type 0} → State A → ℕ → ℕ → Type 0
HasElement {A} s h i = IsSomeAnd (object_at s h) (λ (o : Object A). i < element_count o)
