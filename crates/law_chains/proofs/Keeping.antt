-- What an operation comes to leaves the frames' methods as they are.
use Rattle.std.proofs.Common.{arith}
use Rattle.std.proofs.Common.{◌≡◌, ℕ, zero, suc, ◌+◌, ◌==◌, Bool, true, false, if◌then◌else◌, List, [], ◌∷◌, map, refl, ◌∙◌}
use Rattle.std.specs.Prelude.{ℤ, Option, ⊤}
use Rattle.jc_base.specs.declared.ty.Ty.{Ty}
use Rattle.jc_base.specs.Cell.{width}
use Rattle.jc_base.specs.World.{Linked}
use Rattle.jc_decode.specs.declared.insn.Insn.{Insn}
use Rattle.jc_ops.specs.declared.operation.Constant.{Constant}
use Rattle.jc_ops.specs.declared.operation.Constant.TheVariants as constants
use Rattle.jc_ops.specs.declared.operation.Sort.{Sort}
use Rattle.jc_ops.specs.declared.operation.Sort.TheVariants as sorts
use Rattle.jc_ops.specs.declared.operation.Width.{Width}
use Rattle.jc_ops.specs.declared.operation.Width.TheVariants as widths
use Rattle.jc_ops.specs.declared.operation.Arithmetic.{Arithmetic}
use Rattle.jc_ops.specs.declared.operation.Arithmetic.TheVariants as arithmetic
use Rattle.jc_ops.specs.declared.operation.TypeTest.{TypeTest}
use Rattle.jc_ops.specs.declared.operation.TypeTest.TheVariants as tests
use Rattle.jc_ops.specs.declared.operation.Holder.{Holder}
use Rattle.jc_ops.specs.declared.operation.Holder.TheVariants as holders
use Rattle.jc_ops.specs.declared.operation.InstanceField.{InstanceField}
use Rattle.jc_ops.specs.declared.operation.Callee.{Callee}
use Rattle.jc_ops.specs.declared.operation.Choice.{Choice}
use Rattle.jc_ops.specs.declared.operation.Choice.TheVariants as choices
use Rattle.jc_ops.specs.declared.operation.Operation.{Operation}
use Rattle.jc_ops.specs.declared.operation.Operation.TheVariants as ops
use Rattle.vm_store.specs.declared.cell.Cell.{Cell}
use Rattle.vm_store.specs.declared.cell.ObjectKind.{ObjectKind}
use Rattle.vm_store.specs.Cells.{tagged}
use Rattle.vm_store.specs.State.{Frame, Object, State}
use Rattle.vm_store.specs.Objects.{with_object_cell, with_static_cell}
use Rattle.vm_store.specs.Value.{with_object_value, with_static_value}
use Rattle.vm_step.specs.declared.ending.Exception.{Exception}
use Rattle.vm_step.specs.declared.ending.Exception.TheVariants as exceptions
use Rattle.vm_step.specs.Act.{Act, goes, jumps, makes, calls, gives, raises, throws, lacks, unless_null, if_some}
use Rattle.vm_step.specs.Branching.{leads_if}
use Rattle.vm_step.specs.Calls.{readied, served_act, interface_act, call_act, return_act}
use Rattle.vm_step.specs.Fields.{with_field_read}
use Rattle.vm_step.specs.Numbers.{handle_at, short_at, dropped}
use Rattle.vm_step.specs.Objects.{array_of_count, kind_of_type, type_test_act}
use Rattle.vm_step.specs.Performed.{act}
use Rattle.vm_step.specs.Values.{with_constant, with_store, with_number, incremented, arithmetic_act}
use Rattle.law_chains.specs.Stacked.{methods_on}

-- the state in which the run goes on has frames of these methods
abbrev pub KeepsMethods : List ℕ → Act Cell → Type 0
KeepsMethods ms (goes z) = methods_on z ≡ ms
KeepsMethods ms (jumps to z) = methods_on z ≡ ms
KeepsMethods ms (makes kind cells reference z) = methods_on z ≡ ms
KeepsMethods ms (calls method count z) = methods_on z ≡ ms
KeepsMethods ms (gives value cells) = ⊤
KeepsMethods ms (raises exception) = ⊤
KeepsMethods ms (throws handle) = ⊤
KeepsMethods ms (lacks class) = ⊤

null-keeps : (ms : List ℕ) (h : ℕ) (rest : ℕ → Act Cell) → ((n : ℕ) → KeepsMethods ms (rest n)) → KeepsMethods ms (unless_null h rest)
null-keeps ms h rest keeps = go (h == 0)
  where
    go : (b : Bool) → KeepsMethods ms (if b then raises exceptions.NullPointer else rest h)
    go true = tt
    go false = keeps h

some-keeps : {X : Type 0} (ms : List ℕ) (e : Exception) (o : Option X) (rest : X → Act Cell) → ((x : X) → KeepsMethods ms (rest x))
    → KeepsMethods ms (if_some e o rest)
some-keeps ms e x rest keeps = grind (arith)

either-keeps : (ms : List ℕ) (b : Bool) (x y : Act Cell) → KeepsMethods ms x → KeepsMethods ms y → KeepsMethods ms (if b then x else y)
either-keeps ms x x2 y h g = grind (arith)

object-cell-keeps : (s : State Cell) (h at : ℕ) (c : Cell) → methods_on (with_object_cell s h at c) ≡ methods_on s
object-cell-keeps s zero at c = refl
object-cell-keeps s (suc h) at c = refl

object-value-keeps : (s : State Cell) (h at : ℕ) (cs : List Cell) → methods_on (with_object_value s h at cs) ≡ methods_on s
object-value-keeps s h at [] = refl
object-value-keeps s h at (c ∷ cs) = object-value-keeps (with_object_cell s h at c) h (at + 1) cs ∙ object-cell-keeps s h at c

static-value-keeps : (s : State Cell) (slot : ℕ) (cs : List Cell) → methods_on (with_static_value s slot cs) ≡ methods_on s
static-value-keeps s slot [] = refl
static-value-keeps s slot (c ∷ cs) = static-value-keeps (with_static_cell s slot c) (slot + 1) cs

module _ (f : Frame Cell) (below : List (Frame Cell)) (heap : List (Object Cell)) (statics : List Cell) where
  abbrev now : State Cell
  now = record { frames = f ∷ below; heap = heap; statics = statics }

  abbrev here : List ℕ
  here = f.method ∷ map (λ (g : Frame Cell). g.method) below

  constant-keeps : (c : Constant) → methods_on (with_constant tagged c now) ≡ here
  constant-keeps x = grind (arith)

  store-keeps : (sort : Sort) (x : ℕ) → methods_on (with_store tagged sort x now) ≡ here
  store-keeps x x2 = grind (arith)

  number-keeps : (width : Width) (x : ℕ) (n : ℤ) → methods_on (with_number tagged width x n now) ≡ here
  number-keeps x x2 n = grind (arith)

  arithmetic-keeps : (a : Arithmetic) → KeepsMethods here (arithmetic_act tagged a now)
  arithmetic-keeps x = grind (arith, some-keeps)

  branch-keeps : (b : Bool) (to : ℤ) (z : State Cell) → methods_on z ≡ here → KeepsMethods here (leads_if b to z)
  branch-keeps x to z h = grind (arith)

  array-keeps : (kind : ObjectKind) (n : ℤ) (z : State Cell) → methods_on z ≡ here → KeepsMethods here (array_of_count tagged kind n z)
  array-keeps kind x z h = grind (arith)

  return-keeps : (result : Option Ty) → KeepsMethods here (return_act tagged result now)
  return-keeps x = grind (arith)

  test-keeps : (w : Linked) (test : TypeTest) (ty : Ty) → KeepsMethods here (type_test_act tagged w.classes test ty now)
  test-keeps w x ty = grind (arith, either-keeps)

  field-keeps : (field : InstanceField) (holder : Holder) (h : ℕ) → methods_on (with_field_read tagged field holder h now) ≡ here
  field-keeps field x h = grind (arith)

  readied-keeps : (o : Option ℕ) → methods_on (readied tagged now o) ≡ here
  readied-keeps x = grind (arith)

  served-keeps : (o : Option ℕ) (class count : ℕ) → KeepsMethods here (served_act o class count now)
  served-keeps x class count = grind (arith)

  interface-keeps : (w : Linked) (interface token count : ℕ) (o : Option ObjectKind) → KeepsMethods here (interface_act w.classes interface token count o now)
  interface-keeps w interface token count x = grind (arith, served-keeps)

  choice-keeps : (w : Linked) (callee : Callee) (c : Choice) → KeepsMethods here (call_act tagged w (record callee { choice = c }) now)
  choice-keeps w callee x = grind (arith, null-keeps, readied-keeps, interface-keeps)

  pub act-keeps : (w : Linked) (i : Insn) (op : Operation) → KeepsMethods here (act tagged w i op now)
  act-keeps w i (ops.Constant c) = constant-keeps c
  act-keeps w i (ops.Load wanted x) = refl
  act-keeps w i (ops.Store wanted x) = store-keeps wanted x
  act-keeps w i (ops.Increment width x amount) = number-keeps width x (incremented tagged width f.registers x amount)
  act-keeps w i (ops.Move move) = refl
  act-keeps w i (ops.Arithmetic a) = arithmetic-keeps a
  act-keeps w i (ops.ArrayRead kind) = grind (arith, null-keeps, some-keeps)
  act-keeps w i (ops.ArrayWrite kind) = grind (arith, null-keeps, some-keeps, either-keeps, object-value-keeps)
  act-keeps w i ops.ArrayLength = grind (arith, null-keeps)
  act-keeps w i (ops.Branch branch) = grind (arith, branch-keeps)
  act-keeps w i (ops.Switch width) = refl
  act-keeps w i (ops.StaticRead field) = refl
  act-keeps w i (ops.StaticWrite field) = grind (arith, static-value-keeps)
  act-keeps w i (ops.FieldRead field holder) = grind (arith, null-keeps, field-keeps)
  act-keeps w i (ops.FieldWrite field holder) = grind (arith, null-keeps, object-value-keeps)
  act-keeps w i (ops.Call callee) = choice-keeps w callee callee.choice
  act-keeps w i (ops.New place class) = refl
  act-keeps w i (ops.NewArray ty) = array-keeps (kind_of_type ty) (short_at tagged f.stack 0) (dropped now 1) refl
  act-keeps w i ops.Throw = null-keeps here (handle_at tagged f.stack 0) throws (λ h. tt {0})
  act-keeps w i (ops.TypeTest test ty) = test-keeps w test ty
  act-keeps w i (ops.Return result) = return-keeps result
