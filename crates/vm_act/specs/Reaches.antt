-- What an operation asks of a state: registers, cells and room on the operand stack, and the objects, fields, classes and methods of which
-- it speaks (JCVM 2.2, section 7.5). A machine of tagged cells tests this first, and one of bare words runs code that was verified.
use Rattle.std.specs.Prelude.{◌≡◌, ℕ, ◌+◌, ◌<◌, ◌≤◌, length, Ok, IsSome, ⊤}
use Rattle.jc_base.specs.declared.ty.Ty.TheVariants.{Class}
use Rattle.jc_base.specs.Class.{IsClass}
use Rattle.jc_base.specs.Order.{Below, IsArray}
use Rattle.jc_base.specs.Cell.{width, IsOfKind}
use Rattle.jc_base.specs.World.{Linked}
use Rattle.jc_decode.specs.declared.insn.Insn.{Insn}
use Rattle.jc_decode.specs.Decoding.{decoded}
use Rattle.jc_ops.specs.declared.operation.Choice.{Choice}
use Rattle.jc_ops.specs.declared.operation.Choice.TheVariants as choices
use Rattle.jc_ops.specs.declared.operation.Callee.{Callee}
use Rattle.jc_ops.specs.declared.operation.Operation.{Operation}
use Rattle.jc_ops.specs.declared.operation.Operation.TheVariants as ops
use Rattle.jc_ops.specs.declared.operation.StaticField.{StaticField}
use Rattle.jc_ops.specs.Sound.{IsCalleeOf, IsNamedType}
use Rattle.jc_rules.specs.Footprint.{registers_asked, cells_asked, footprint}
use Rattle.jc_rules.specs.Rule.{demands}
use Rattle.vm_store.specs.declared.cell.ObjectKind.{ObjectKind}
use Rattle.vm_store.specs.Kind.{IsArrayKind, IsNumbered}
use Rattle.vm_store.specs.Cells.{Cells}
use Rattle.vm_store.specs.State.{State, top}
use Rattle.vm_store.specs.Objects.{object_at}
use Rattle.vm_step.specs.Instance.{IsRecorded}
use Rattle.vm_step.specs.Numbers.{handle_at}
use Rattle.vm_step.specs.Fields.{held_handle}
use Rattle.vm_step.specs.Calls.{args_of, class_of}
use Rattle.vm_step.specs.Methods.{code_at}
use Rattle.vm_act.specs.Found.{IsNullOr, IsObject, IsArrayFor, HasField, MayCompare}

-- a static field of this kind, whose cells are there
pub record HasStatic {A : Type 0} (f : StaticField) (s : State A) : Type 0 where
  pub there : f.slot + width f.kind ≤ length s.statics
  pub kind : IsOfKind f.kind f.ty

-- a kind of arrays, of which the class or interface of the elements has a record
pub record IsArrayOf (w : Linked) (kind : ObjectKind) : Type 0 where
  pub array : IsArrayKind kind
  pub numbered : IsNumbered kind
  pub recorded : IsRecorded w.classes kind

-- an array of which this is known, or null, under so many cells
abbrev pub HandleIs : {A : Type 0} → Cells A → State A → ℕ → (ℕ → Type 0) → Type 0
HandleIs k s n fact = IsNullOr (handle_at k (top s).stack n) (fact (handle_at k (top s).stack n))

-- the receiver of a call: by its class a method is chosen
abbrev pub HasReceiver : {A : Type 0} → Cells A → Linked → Callee → Choice → State A → Type 0
HasReceiver k w c (choices.Virtual class token) s =
    HandleIs k s (args_of w c.method)
    (λ h. IsSome (object_at s h)
    × IsClass w.classes (class_of w.classes s h)
    × Below w.classes (Class (class_of w.classes s h)) (Class class))
HasReceiver k w c (choices.Interface class token words) s =
    HandleIs k s (args_of w c.method) (λ h. IsSome (object_at s h) × IsClass w.classes (class_of w.classes s h))
HasReceiver k w c _ s = ⊤

-- the instruction of a switch stands in the code of the method on top
pub record IsInCode {A : Type 0} (w : Linked) (i : Insn) (s : State A) : Type 0 where
  pub method : (top s).method < length w.methods
  pub instruction : decoded (code_at w (top s).method) (top s).place ≡ Ok i

-- what the operation of the instruction i speaks of
abbrev pub FindsNamed : {A : Type 0} → Cells A → Linked → Insn → Operation → State A → Type 0
FindsNamed k w i (ops.ArrayRead kind) s = HandleIs k s 1 (IsArrayFor kind s)
FindsNamed k w i (ops.ArrayWrite kind) s =
    HandleIs k s (width kind + 1) (IsArrayFor kind s) × HandleIs k s (width kind + 1) (MayCompare k w.classes kind s)
FindsNamed k w i ops.ArrayLength s = HandleIs k s 0 (λ h. IsSome (object_at s h))
FindsNamed k w i (ops.Switch width) s = IsInCode w i s
FindsNamed k w i (ops.StaticRead f) s = HasStatic f s
FindsNamed k w i (ops.StaticWrite f) s = HasStatic f s
FindsNamed k w i (ops.FieldRead f holder) s =
    IsOfKind f.kind f.ty × IsNullOr (held_handle k holder 0 s) (HasField f s (held_handle k holder 0 s))
FindsNamed k w i (ops.FieldWrite f holder) s =
    IsOfKind f.kind f.ty × IsNullOr (held_handle k holder (width f.kind) s) (HasField f s (held_handle k holder (width f.kind) s))
FindsNamed k w i (ops.Call c) s = IsCalleeOf w c × HasReceiver k w c c.choice s
FindsNamed k w i (ops.New place class) s = IsClass w.classes class
FindsNamed k w i (ops.NewArray ty) s = IsArray ty × IsNamedType w.classes ty
FindsNamed k w i ops.Throw s = HandleIs k s 0 (λ h. IsSome (object_at s h))
FindsNamed k w i (ops.TypeTest test ty) s = HandleIs k s 0 (IsObject w.classes s) × IsNamedType w.classes ty
FindsNamed k w i op s = ⊤

-- the state has what the operation asks: so many registers and cells, room for as many cells as it gives, and what it speaks of
pub record Reaches {A : Type 0} (limit : ℕ) (k : Cells A) (w : Linked) (i : Insn) (op : Operation) (s : State A) : Type 0 where
  pub registers : registers_asked (demands w op) ≤ length (top s).registers
  pub cells : cells_asked (demands w op) ≤ length (top s).stack
  pub room : length (top s).stack + (footprint w op).given ≤ limit + (footprint w op).taken
  pub finds : FindsNamed k w i op s
