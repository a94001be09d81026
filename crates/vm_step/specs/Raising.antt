-- Exceptions (JCVM 2.2, sections 3.7 and 6.9.1).
use Rattle.std.specs.Prelude.{ℕ, ◌+◌, Bool, ◌&&◌, if◌then◌else◌, nat_le, nat_lt, List, [], ◌∷◌, length, Option, Some}
use Rattle.std.specs.Prelude.{None, find, slice_index}
use Rattle.jc_base.specs.declared.record.Handler.{Handler}
use Rattle.jc_base.specs.Class.{ClassTable}
use Rattle.jc_base.specs.Order.{is_on_chain}
use Rattle.jc_base.specs.Dispatch.{cells_of}
use Rattle.jc_base.specs.World.{Linked}
use Rattle.vm_store.specs.declared.cell.ObjectKind.TheVariants.{Instance}
use Rattle.vm_store.specs.Cells.{Cells}
use Rattle.vm_store.specs.State.{Frame, State, without_frames}
use Rattle.vm_store.specs.Objects.{has_room, new_instance_cells, with_object}
use Rattle.vm_step.specs.declared.ending.Plain.TheVariants.{Threw, HeapFull}
use Rattle.vm_step.specs.declared.ending.Ending.{Ending}
use Rattle.vm_step.specs.declared.ending.Fault.TheVariants.{StackFault}
use Rattle.vm_step.specs.declared.ending.Ending.TheVariants.{Plain, Faulted}
use Rattle.vm_step.specs.declared.ending.Exception.{Exception}
use Rattle.vm_step.specs.Act.{role_of}
use Rattle.vm_step.specs.Methods.{handlers_of, max_stack_of}
use Rattle.vm_step.specs.Calls.{class_of}

-- a step leads to a state, or ends the run; then there is no frame left
pub data Outcome (A : Type 0) : Type 0 where
  running : State A → Outcome A
  ended : Ending → State A → Outcome A

abbrev pub ends : {A : Type 0} → Ending → State A → Outcome A
ends ending s = ended ending (without_frames s)

-- whether the handler's range has the place, and its class is at or above that of the object
abbrev pub catches : ClassTable → ℕ → ℕ → Handler → Bool
catches t place class h = (nat_le h.start place && nat_lt place h.end) && is_on_chain t h.class class

-- the first handler in the method's table that catches an object of the class
abbrev pub handler_for : {A : Type 0} → Linked → ℕ → Frame A → Option Handler
handler_for w class f = find (catches w.classes f.place class) (handlers_of w f.method)

-- a frame in which an object is caught: its operand stack has one cell
abbrev pub caught : {A : Type 0} → Cells A → Handler → ℕ → Frame A → Frame A
caught k h handle f = record f { place = h.entry; stack = k.reference handle ∷ [] }

-- a machine of tagged cells ends the run where the method's operand stack has no room for the reference
abbrev pub has_no_room : {A : Type 0} → Cells A → Linked → Frame A → Bool
has_no_room k w f = k.checks && nat_lt (max_stack_of w f.method) 1

abbrev pub caught_by : {A : Type 0} → Cells A → Linked → Handler → ℕ → State A → Frame A → List (Frame A) → Outcome A
caught_by k w h handle s f below =
    if has_no_room k w f
    then ends (Faulted StackFault) s
    else running (record s { frames = caught k h handle f ∷ below })

abbrev pub caught_or :
    {A : Type 0} → Cells A → Linked → ℕ → State A → Frame A → List (Frame A) → Outcome A → Option Handler → Outcome A
caught_or k w handle s f below otherwise (Some h) = caught_by k w h handle s f below
caught_or k w handle s f below otherwise None = otherwise

-- an object is thrown over these frames: those above the first that catches it are dropped
abbrev pub unwound : {A : Type 0} → Cells A → Linked → ℕ → ℕ → State A → List (Frame A) → Outcome A
unwound k w class handle s [] = ends (Plain (Threw class handle)) s
unwound k w class handle s (f ∷ below) =
    caught_or k w handle s f below (unwound k w class handle s below) (handler_for w class f)

-- the object of a handle is thrown; an array counts as of class object
abbrev pub thrown : {A : Type 0} → Cells A → Linked → ℕ → State A → Outcome A
thrown k w handle s = unwound k w (class_of w.classes s handle) handle s s.frames

-- an object of an exception's class is made and thrown, where it has room
abbrev pub raised : {A : Type 0} → Cells A → Linked → Exception → State A → Outcome A
raised k w exception s =
    let class = slice_index w.classes.roles (role_of exception) in
    if has_room s (length (cells_of w.classes class))
    then thrown k w (length s.heap + 1) (with_object s (Instance class) (new_instance_cells k w.classes class))
    else ends (Plain HeapFull) s
