-- What each operation comes to, in a state that has what it asks: the shape stays, and a method that is called has registers.
use Rattle.std.proofs.Common.{◌≡◌, ℕ, ◌+◌, ◌*◌, ◌≤◌, ◌==◌, Bool, true, false, List, length, refl, arith}
use Rattle.std.specs.Prelude.{ℤ, Option, Some, All, IfSome, IsSome, MatchBool, if◌then◌else◌, ⊤}
use Rattle.std.proofs.lemmas.List.{length-map}
use Rattle.jc_base.specs.declared.ty.Ty.{Ty}
use Rattle.jc_base.specs.declared.ty.Ty.TheVariants.{Class}
use Rattle.jc_base.specs.Class.{IsClass}
use Rattle.jc_base.specs.Order.{Below}
use Rattle.jc_base.specs.Cell.{width}
use Rattle.jc_base.specs.Linked.{AreDispatched}
use Rattle.jc_base.specs.World.{Linked, IsWorld}
use Rattle.jc_decode.specs.declared.insn.Insn.{Insn}
use Rattle.jc_ops.specs.declared.operation.Sort.{Sort}
use Rattle.jc_ops.specs.declared.operation.Sort.TheVariants as sorts
use Rattle.jc_ops.specs.declared.operation.Width.{Width}
use Rattle.jc_ops.specs.declared.operation.Width.TheVariants as widths
use Rattle.jc_ops.specs.declared.operation.Constant.{Constant}
use Rattle.jc_ops.specs.declared.operation.Arithmetic.{Arithmetic}
use Rattle.jc_ops.specs.declared.operation.Holder.{Holder}
use Rattle.jc_ops.specs.declared.operation.TypeTest.TheVariants as tests
use Rattle.jc_ops.specs.declared.operation.Choice.{Choice}
use Rattle.jc_ops.specs.declared.operation.Choice.TheVariants as choices
use Rattle.jc_ops.specs.declared.operation.Callee.{Callee}
use Rattle.jc_ops.specs.declared.operation.InstanceField.{InstanceField}
use Rattle.jc_ops.specs.declared.operation.Operation.{Operation}
use Rattle.jc_ops.specs.declared.operation.Operation.TheVariants as ops
use Rattle.jc_ops.specs.declared.operation.Want.{Want}
use Rattle.jc_base.specs.declared.record.MethodRec.{MethodRec}
use Rattle.jc_ops.specs.Sound.{IsCalleeOf, IsReceiverOf, IsNamedType, receiver_count}
use Rattle.jc_rules.specs.Footprint.{cells_asked}
use Rattle.jc_rules.specs.Rule.{demands}
use Rattle.vm_store.specs.declared.cell.ObjectKind.{ObjectKind}
use Rattle.vm_store.specs.declared.cell.ObjectKind.TheVariants.{Instance}
use Rattle.vm_store.specs.Kind.{kind_of_handle, cell_kind}
use Rattle.vm_store.specs.Cells.{Cells, zero_cell}
use Rattle.vm_store.specs.State.{State, IsRunning, top, nth, with_stack}
use Rattle.vm_store.specs.Objects.{kinds, object_at, new_instance_cells}
use Rattle.vm_store.specs.Value.{value_on, kept_value}
use Rattle.jc_base.specs.Dispatch.{cells_of}
use Rattle.vm_step.specs.declared.ending.Exception.{Exception}
use Rattle.vm_step.specs.declared.ending.Exception.TheVariants as exceptions
use Rattle.vm_step.specs.Act.{Act, goes, calls, raises, throws, unless_null, if_some}
use Rattle.vm_step.specs.Numbers.{handle_at, short_at, dropped}
use Rattle.vm_step.specs.Branching.{leads_if}
use Rattle.vm_step.specs.Objects.{array_of_count, kind_of_type}
use Rattle.vm_step.specs.Calls.{args_of, class_of, class_with_methods, served, readied, served_act, interface_act, chosen_act, made_at, with_ready}
use Rattle.vm_step.specs.Fields.{with_field_write, held_handle, holder_width, elements_of, element_index, keeps_kind, with_element, at_element}
use Rattle.vm_step.specs.Performed.{act}
use Rattle.vm_act.specs.Lead.{TakesCells}
use Rattle.vm_act.specs.Found.{IsNullOr}
use Rattle.vm_act.specs.Reaches.{FindsNamed, HasReceiver}
use Rattle.vm_act.proofs.Asked.{call-cells}
use Rattle.vm_act.proofs.Takes.{static-takes, special-takes, virtual-takes, interface-takes}
use Rattle.vm_check.specs.Shaped.{IsShapedObject, IsShapedFor}
use Rattle.vm_check.proofs.Staying.{Fine, Next, next-same, next-stack, next-register, next-registers, next-popped, next-popped-twice, value-written}
use Rattle.vm_check.proofs.Staying.{static-written}

module _ {A : Type 0} (w : Linked) (s : State A) where
  fine-if : (b : Bool) (x y : Act A) → Fine w s x → Fine w s y → Fine w s (if b then x else y)
  fine-if x x2 y h g = grind (arith)

  -- where the handle is not null
  fine-null : (h : ℕ) (f : ℕ → Act A) → Fine w s (f h) → Fine w s (unless_null h f)
  fine-null h f fine = fine-if (h == 0) (raises exceptions.NullPointer) (f h) (tt {0}) fine

  fine-known : (h : ℕ) (P : Type 0) (f : ℕ → Act A) → IsNullOr h P → (P → Fine w s (f h)) → Fine w s (unless_null h f)
  fine-known h P f known fine = by (h == 0) known
    where
      by : (b : Bool) → MatchBool b ⊤ P → Fine w s (if b then raises exceptions.NullPointer else f h)
      by true known = tt {0}
      by false known = fine known

  fine-some : {X : Type 0} (e : Exception) (o : Option X) (f : X → Act A) → ((x : X) → Fine w s (f x)) → Fine w s (if_some e o f)
  fine-some e x f fine = grind (arith)

  fine-leads : (b : Bool) (to : ℤ) (z : State A) → Next w s z → Fine w s (leads_if b to z)
  fine-leads x to z h = grind (arith)

count-some : (w : Linked) (m : MethodRec) (o : Option Want) → IsReceiverOf w m o → receiver_count o ≡ 1
count-some w m x h = grind (arith)

one-special : (w : Linked) (c : Callee) (sound : IsCalleeOf w c) → c.choice ≡ choices.Special → receiver_count c.receiver ≡ 1
one-special w c sound e = grind (arith, count-some)

one-virtual : (w : Linked) (c : Callee) (sound : IsCalleeOf w c) (class token : ℕ) → c.choice ≡ choices.Virtual class token
    → receiver_count c.receiver ≡ 1
one-virtual w c sound class token e = grind (arith)

one-interface : (w : Linked) (c : Callee) (sound : IsCalleeOf w c) (class token words : ℕ) → c.choice ≡ choices.Interface class token words
    → receiver_count c.receiver ≡ 1
one-interface w c sound class token words e = grind (arith)

array-named : (w : Linked) (ty : Ty) (n : ℕ) → IsNamedType w.classes ty → IsShapedFor w.classes (kind_of_type ty) n
array-named w ty n h = grind (arith)

module _ {A : Type 0} (k : Cells A) (w : Linked) (is : IsWorld w) (runs : AreDispatched w.classes w.methods) (i : Insn) (s : State A)
    (running : IsRunning s) (shaped : All (IsShapedObject w.classes) s.heap) where
  on-stack : (cells : List A) → Next w s (with_stack s cells)
  on-stack cells = next-stack w s running shaped cells

  fine-constant : (c : Constant) → Fine w s (act k w i (ops.Constant c) s)
  fine-constant x = grind (arith, next-same, on-stack, next-stack)

  fine-store : (sort : Sort) (x : ℕ) → Fine w s (act k w i (ops.Store sort x) s)
  fine-store sorts.Reference x = next-popped w s running shaped _ x _
  fine-store sorts.Short x = next-popped w s running shaped _ x _
  fine-store sorts.Int x = next-popped-twice w s running shaped _ x (x + 1) _ _

  fine-increment : (width : Width) (x : ℕ) (amount : ℤ) → Fine w s (act k w i (ops.Increment width x amount) s)
  fine-increment widths.Short x amount = next-register w s running shaped x _
  fine-increment widths.Int x amount = next-registers w s running shaped x (x + 1) _ _

  fine-arithmetic : (a : Arithmetic) → Fine w s (act k w i (ops.Arithmetic a) s)
  fine-arithmetic a = grind (arith, fine-some, next-stack)

  fine-field : (f : InstanceField) (holder : Holder) → Fine w s (act k w i (ops.FieldRead f holder) s)
  fine-field f x = grind (arith, fine-null, next-stack)

  fine-count : (kind : ObjectKind) (n : ℤ) (z : State A) → Next w s z → ((m : ℕ) → IsShapedFor w.classes kind m)
      → Fine w s (array_of_count k kind n z)
  fine-count kind x z next named = grind (arith, length)

  instance-cells : (class : ℕ) → length (new_instance_cells k w.classes class) ≡ length (cells_of w.classes class)
  instance-cells class = length-map (cells_of w.classes class) (λ ty. zero_cell k (cell_kind ty))

  -- ---- calls

  abbrev Stays : State A → ℕ → ℕ → Type 0
  Stays z method count = Next w s z × (length (top z).stack ≤ length (top s).stack) × TakesCells w method count × (count ≤ length (top z).stack)

  same-stack : (method count : ℕ) → TakesCells w method count → count ≤ length (top s).stack → Stays s method count
  same-stack method count takes there = (next-same w s running shaped, omega arith, takes, there)

  readied-stays : (o : Option ℕ) (method count : ℕ) → TakesCells w method count → count ≤ length (top s).stack → Stays (readied k s o) method count
  readied-stays x method count takes there = grind (arith, same-stack, length, length-map, next-stack)

  fine-served : (o : Option ℕ) (class count : ℕ) → IfSome o (λ n. TakesCells w n count) → count ≤ length (top s).stack
      → Fine w s (served_act o class count s)
  fine-served x class count takes there = grind (arith, same-stack)

  fine-interface : (c : Callee) → IsCalleeOf w c → (interface token words : ℕ) → c.choice ≡ choices.Interface interface token words
      → (o : Option ObjectKind) → IsClass w.classes (class_with_methods w.classes o)
      → args_of w c.method + 1 ≤ length (top s).stack → Fine w s (interface_act w.classes interface token (args_of w c.method + 1) o s)
  fine-interface c sound interface token words e (Some (Instance of)) class there =
      fine-served (served w.classes interface token of) of (args_of w c.method + 1) (interface-takes w is c sound interface token words of e class) there
  fine-interface c sound interface token words e o class there = tt {0}

  abbrev Receives : ℕ → ℕ → Type 0
  Receives class h = IsSome (object_at s h) × IsClass w.classes (class_of w.classes s h) × Below w.classes (Class (class_of w.classes s h)) (Class class)

  fine-chosen : (c : Callee) → IsCalleeOf w c → (choice : Choice) → c.choice ≡ choice → args_of w c.method + receiver_count c.receiver ≤ length
      (top s).stack
      → HasReceiver k w c choice s → Fine w s (chosen_act k w.classes c (args_of w c.method) choice s)
  fine-chosen c sound choices.Static e there receiver = same-stack c.method (args_of w c.method) (static-takes w is c sound e) (omega (arith, there))
  fine-chosen c sound choices.Special e there receiver =
      fine-null w s (handle_at k (top s).stack (args_of w c.method))
      (λ h. calls c.method (args_of w c.method + 1) (with_ready k w.classes c (args_of w c.method) s))
      (readied-stays (made_at c.receiver (k.type_of w.classes (kinds s) (nth k (top s).stack (args_of w c.method)))) c.method (args_of w c.method + 1)
      (special-takes w is c sound e) (omega (arith, there, one-special w c sound e)))
  fine-chosen c sound (choices.Virtual class token) e there receiver = grind (arith, fine-known, same-stack, virtual-takes, one-virtual)
  fine-chosen c sound (choices.Interface class token words) e there receiver =
      fine-known w s (handle_at k (top s).stack (args_of w c.method)) (IsSome (object_at s (handle_at k (top s).stack (args_of w c.method)))
      × IsClass w.classes (class_of w.classes s (handle_at k (top s).stack (args_of w c.method))))
      (λ h. interface_act w.classes class token (args_of w c.method + 1) (kind_of_handle (kinds s) h) s) receiver
      (λ known. fine-interface c sound class token words e (kind_of_handle (kinds s) (handle_at k (top s).stack (args_of w c.method))) known.1
      (omega (arith, there, one-interface w c sound class token words e)))

  fine-return : (result : Option Ty) → Fine w s (act k w i (ops.Return result) s)
  fine-return result = grind (arith)

  -- an operation that has what it asks
  pub act-fine : (op : Operation) → cells_asked (demands w op) ≤ length (top s).stack → FindsNamed k w i op s → Fine w s (act k w i op s)
  act-fine (ops.Constant c) cells found = fine-constant c
  act-fine (ops.Load sort x) cells found = next-stack w s running shaped _
  act-fine (ops.Store sort x) cells found = fine-store sort x
  act-fine (ops.Increment width x amount) cells found = fine-increment width x amount
  act-fine (ops.Move move) cells found = next-stack w s running shaped _
  act-fine (ops.Arithmetic a) cells found = fine-arithmetic a
  act-fine (ops.ArrayRead kind) cells found = grind (arith, fine-null, fine-some, next-stack)
  act-fine (ops.ArrayWrite kind) cells found =
      let h = handle_at k (top s).stack (width kind + 1) in
      let index = short_at k (top s).stack (width kind) in
      fine-null w s h
      (λ a. at_element index (elements_of s a)
      (λ n. if keeps_kind k w.classes kind s a then goes (with_element k kind a n s) else raises exceptions.ArrayStore))
      (fine-some w s {X = ℕ} exceptions.ArrayIndex (element_index index (elements_of s h))
      (λ n. if keeps_kind k w.classes kind s h then goes (with_element k kind h n s) else raises exceptions.ArrayStore)
      (λ n. fine-if w s (keeps_kind k w.classes kind s h) (goes (with_element k kind h n s)) (raises exceptions.ArrayStore)
      (value-written w s (dropped s (width kind + 2)) (next-stack w s running shaped _) h (n * width kind) (kept_value k kind (value_on k kind (top s).stack)))
      (tt {0})))
  act-fine ops.ArrayLength cells found = grind (arith, fine-null, next-stack)
  act-fine (ops.Branch branch) cells found = grind (arith, fine-leads, next-stack)
  act-fine (ops.Switch width) cells found = next-stack w s running shaped _
  act-fine (ops.StaticRead f) cells found = next-stack w s running shaped _
  act-fine (ops.StaticWrite f) cells found =
      static-written w s (dropped s (width f.kind)) (next-stack w s running shaped _) f.slot (kept_value k f.kind (value_on k f.kind (top s).stack))
  act-fine (ops.FieldRead f holder) cells found = fine-field f holder
  act-fine (ops.FieldWrite f holder) cells found =
      fine-null w s (held_handle k holder (width f.kind) s) (λ h. goes (with_field_write k f holder h s))
      (value-written w s (dropped s (width f.kind + holder_width holder)) (next-stack w s running shaped _) (held_handle k holder (width f.kind) s) f.cell
      (kept_value k f.kind (value_on k f.kind (top s).stack)))
  act-fine (ops.Call c) cells found = fine-chosen c found.0 c.choice refl (call-cells w c (length (top s).stack) cells) found.1
  act-fine (ops.New place class) cells found = (next-same w s running shaped, (found, instance-cells class))
  act-fine (ops.NewArray ty) cells found = grind (arith, fine-count, next-stack, array-named)
  act-fine ops.Throw cells found = fine-null w s (handle_at k (top s).stack 0) (λ h. throws h) (tt {0})
  act-fine (ops.TypeTest tests.Cast ty) cells found = grind (arith, fine-if, next-same)
  act-fine (ops.TypeTest tests.InstanceOf ty) cells found = next-stack w s running shaped _
  act-fine (ops.Return result) cells found = fine-return result
