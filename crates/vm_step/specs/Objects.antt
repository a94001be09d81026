-- New objects, and what an object is an instance of (JCVM 2.2, chapter 7).
use Rattle.std.specs.Prelude.{ℕ, ℤ, pos, negsuc, ◌==◌, ◌||◌, Bool, true, false, if◌then◌else◌, [], ◌∷◌}
use Rattle.std.specs.Prelude.{Option, Some, None}
use Rattle.jc_base.specs.declared.ty.Ty.{Ty}
use Rattle.jc_base.specs.declared.ty.Ty.TheVariants.{ArrBool, ArrByte, ArrShort, ArrRef}
use Rattle.jc_base.specs.Class.{ClassTable}
use Rattle.jc_ops.specs.declared.operation.TypeTest.{TypeTest}
use Rattle.jc_ops.specs.declared.operation.TypeTest.TheVariants as tests
use Rattle.vm_store.specs.declared.cell.ObjectKind.{ObjectKind}
use Rattle.vm_store.specs.declared.cell.ObjectKind.TheVariants.{Instance, Booleans, Bytes, Shorts, Ints, References}
use Rattle.vm_store.specs.Kind.{kind_of_handle}
use Rattle.vm_store.specs.Cells.{Cells}
use Rattle.vm_store.specs.State.{State, top}
use Rattle.vm_store.specs.Objects.{kinds, new_instance_cells, array_cells}
use Rattle.vm_step.specs.Instance.{is_instance}
use Rattle.vm_step.specs.declared.ending.Exception.TheVariants as exceptions
use Rattle.vm_step.specs.Act.{Act, goes, makes, raises, throws, unless_null}
use Rattle.vm_step.specs.Numbers.{handle_at, short_at, dropped, replaced}

-- an object on which no constructor was called yet
abbrev pub new_act : {A : Type 0} → Cells A → ClassTable → ℕ → ℕ → State A → Act A
new_act k t place class s = makes (Instance class) (new_instance_cells k t class) (λ h. k.fresh h place) s

-- the kind of the arrays of a type; an interface stands in it as itself
abbrev pub kind_of_type : Ty → ObjectKind
kind_of_type ArrBool = Booleans
kind_of_type ArrByte = Bytes
kind_of_type ArrShort = Shorts
kind_of_type (ArrRef class) = References class
kind_of_type ty = Ints

-- an array of so many elements; none of fewer than none
abbrev pub array_of_count : {A : Type 0} → Cells A → ObjectKind → ℤ → State A → Act A
array_of_count k kind (pos count) s = makes kind (array_cells k kind count) k.reference s
array_of_count k kind (negsuc n) s = raises exceptions.NegativeSize

abbrev pub new_array_act : {A : Type 0} → Cells A → Ty → State A → Act A
new_array_act k ty s = array_of_count k (kind_of_type ty) (short_at k (top s).stack 0) (dropped s 1)

abbrev pub throw_act : {A : Type 0} → Cells A → State A → Act A
throw_act k s = unless_null (handle_at k (top s).stack 0) throws

abbrev pub kind_passes : ClassTable → Ty → Option ObjectKind → Bool
kind_passes t ty None = false
kind_passes t ty (Some kind) = is_instance t kind ty

-- whether the reference is that of an instance of the type
abbrev pub passes : {A : Type 0} → ClassTable → State A → Ty → ℕ → Bool
passes t s ty h = kind_passes t ty (kind_of_handle (kinds s) h)

-- null may be cast to every type, and is an instance of none
abbrev pub may_cast : {A : Type 0} → ClassTable → State A → Ty → ℕ → Bool
may_cast t s ty h = h == 0 || passes t s ty h

abbrev pub truth : Bool → ℤ
truth true = pos 1
truth false = pos 0

abbrev pub type_test_act : {A : Type 0} → Cells A → ClassTable → TypeTest → Ty → State A → Act A
type_test_act k t tests.Cast ty s = if may_cast t s ty (handle_at k (top s).stack 0) then goes s else raises exceptions.ClassCast
type_test_act k t tests.InstanceOf ty s = goes (replaced s 1 (k.short (truth (passes t s ty (handle_at k (top s).stack 0))) ∷ []))
