-- Which method a call runs, and with what (JCVM 2.2, chapter 7, the invoke instructions; sections 2.2.1 and 6.8.2).
use Rattle.std.specs.Prelude.{ℕ, ◌+◌, ◌==◌, List, [], ◌∷◌, length, map, Option, Some, None, find, flat_map}
use Rattle.std.specs.Prelude.{slice_get, option_and_then, unwrap_or}
use Rattle.jc_base.specs.declared.ty.Ty.{Ty}
use Rattle.jc_base.specs.declared.ty.Ty.TheVariants.{Short, IntHigh, Fresh}
use Rattle.jc_base.specs.declared.record.Iface.{Iface}
use Rattle.jc_base.specs.Class.{ClassTable, chain, object}
use Rattle.jc_base.specs.Dispatch.{of_record, public_of, dispatched}
use Rattle.jc_base.specs.World.{Linked}
use Rattle.jc_ops.specs.declared.operation.Want.{Want}
use Rattle.jc_ops.specs.declared.operation.Want.TheVariants.{Receiver}
use Rattle.jc_ops.specs.declared.operation.Choice.{Choice}
use Rattle.jc_ops.specs.declared.operation.Choice.TheVariants as choices
use Rattle.jc_ops.specs.declared.operation.Callee.{Callee}
use Rattle.vm_store.specs.declared.cell.ObjectKind.{ObjectKind}
use Rattle.vm_store.specs.declared.cell.ObjectKind.TheVariants.{Instance}
use Rattle.vm_store.specs.Kind.{kind_of_handle}
use Rattle.vm_store.specs.Cells.{Cells}
use Rattle.vm_store.specs.State.{State, top, nth, with_stack}
use Rattle.vm_store.specs.Objects.{kinds}
use Rattle.vm_step.specs.declared.ending.Value.TheVariants as values
use Rattle.vm_step.specs.Act.{Act, calls, gives, lacks, unless_null}
use Rattle.vm_step.specs.Numbers.{handle_at, short_at, int_on}
use Rattle.vm_step.specs.Methods.{of_method}

-- ---- the class of an object

abbrev pub class_with_methods : ClassTable → Option ObjectKind → ℕ
class_with_methods t (Some (Instance class)) = class
class_with_methods t array = object t

-- the class whose methods the object of a handle has: an array has those of object
abbrev pub class_of : {A : Type 0} → ClassTable → State A → ℕ → ℕ
class_of t s h = class_with_methods t (kind_of_handle (kinds s) h)

-- ---- the method of an interface

-- the interfaces that a class names, with the public tokens that serve theirs
abbrev pub interfaces_of : ClassTable → ℕ → List Iface
interfaces_of t class = of_record [] (λ r. r.implements) (slice_get t.records class)

-- the entry of exactly that interface that is nearest among those of a class and its superclasses
unfoldable pub serving : ClassTable → ℕ → ℕ → Option Iface
serving t interface class = find (λ (e : Iface). e.class == interface) (flat_map (interfaces_of t) (chain t class))

-- the method of a class that serves a token of an interface: the entry tells a public token of the class
abbrev pub served : ClassTable → ℕ → ℕ → ℕ → Option ℕ
served t interface token class =
    option_and_then (λ (e : Iface). option_and_then (λ public. slice_get (public_of t class) public) (slice_get e.tokens token))
    (serving t interface class)

-- ---- calls

-- the place of the `new` whose object a constructor makes ready
abbrev pub made_at : Option Want → Ty → Option ℕ
made_at (Some (Receiver class)) (Fresh place made) = Some place
made_at want ty = None

abbrev pub readied : {A : Type 0} → Cells A → State A → Option ℕ → State A
readied k s None = s
readied k s (Some place) = with_stack s (map (k.ready place) (top s).stack)

-- before a constructor runs, each cell of the stack that refers to its object is ready
abbrev pub with_ready : {A : Type 0} → Cells A → ClassTable → Callee → ℕ → State A → State A
with_ready k t callee args s = readied k s (made_at callee.receiver (k.type_of t (kinds s) (nth k (top s).stack args)))

abbrev pub served_act : {A : Type 0} → Option ℕ → ℕ → ℕ → State A → Act A
served_act None class count s = lacks class
served_act (Some n) class count s = calls n count s

abbrev pub interface_act : {A : Type 0} → ClassTable → ℕ → ℕ → ℕ → Option ObjectKind → State A → Act A
interface_act t interface token count (Some (Instance class)) s = served_act (served t interface token class) class count s
interface_act t interface token count array s = lacks (object t)

-- the method that runs, by the choice; the receiver lies under the arguments
abbrev pub chosen_act : {A : Type 0} → Cells A → ClassTable → Callee → ℕ → Choice → State A → Act A
chosen_act k t callee args choices.Static s = calls callee.method args s
chosen_act k t callee args choices.Special s =
    unless_null (handle_at k (top s).stack args) (λ h. calls callee.method (args + 1) (with_ready k t callee args s))
chosen_act k t callee args (choices.Virtual class token) s =
    unless_null (handle_at k (top s).stack args)
    (λ h. calls (unwrap_or (dispatched t class token (class_of t s h)) callee.method) (args + 1) s)
chosen_act k t callee args (choices.Interface class token words) s =
    unless_null (handle_at k (top s).stack args)
    (λ h. interface_act t class token (args + 1) (kind_of_handle (kinds s) h) s)

-- how many argument words the method has, without the receiver
abbrev pub args_of : Linked → ℕ → ℕ
args_of w n = of_method 0 (λ m. length m.sig.args) (slice_get w.methods n)

abbrev pub call_act : {A : Type 0} → Cells A → Linked → Callee → State A → Act A
call_act k w callee s = chosen_act k w.classes callee (args_of w callee.method) callee.choice s

-- ---- returns

-- the value of a result on top of the stack, and its cells
abbrev pub return_act : {A : Type 0} → Cells A → Option Ty → State A → Act A
return_act k None s = gives values.Void []
return_act k (Some Short) s = gives (values.Short (short_at k (top s).stack 0)) (nth k (top s).stack 0 ∷ [])
return_act k (Some IntHigh) s = gives (values.Int (int_on k (top s).stack 0)) (nth k (top s).stack 1 ∷ nth k (top s).stack 0 ∷ [])
return_act k (Some ty) s = gives (values.Ref (handle_at k (top s).stack 0)) (nth k (top s).stack 0 ∷ [])
