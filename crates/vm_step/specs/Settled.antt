-- What a machine of tagged cells tests after an operation, and the state that the step leads to (JCVM 2.2, section 3.5).
use Rattle.std.specs.Prelude.{ℕ, ◌+◌, ℤ, pos, negsuc, Bool, true, false, if◌then◌else◌, not, nat_lt, nat_le, List, []}
use Rattle.std.specs.Prelude.{◌∷◌, length, Option, Some, None}
use Rattle.jc_base.specs.World.{Linked}
use Rattle.jc_decode.specs.declared.insn.Placed.{Placed}
use Rattle.vm_store.specs.declared.cell.ObjectKind.{ObjectKind}
use Rattle.vm_store.specs.Cells.{Cells}
use Rattle.vm_store.specs.State.{State, top, with_place, with_stack, with_call, without_top, frame_limit}
use Rattle.vm_store.specs.Objects.{has_room, with_object}
use Rattle.vm_store.specs.Value.{with_value}
use Rattle.vm_step.specs.declared.ending.Value.{Value}
use Rattle.vm_step.specs.declared.ending.Plain.TheVariants.{Returned, TooDeep, HeapFull, InterfaceMissing}
use Rattle.vm_step.specs.declared.ending.Fault.{Fault}
use Rattle.vm_step.specs.declared.ending.Fault.TheVariants.{StackFault, JumpFault}
use Rattle.vm_step.specs.declared.ending.Ending.TheVariants.{Plain, Faulted}
use Rattle.vm_step.specs.Act.{Act, goes, jumps, makes, calls, gives, raises, throws, lacks}
use Rattle.vm_step.specs.Methods.{code_at, max_stack_of, instruction_at}
use Rattle.vm_step.specs.Raising.{Outcome, running, ends, thrown, raised}

-- ---- the tests

-- so many cells are more than the operand stack of the method on top may have
abbrev pub is_over : {A : Type 0} → Linked → State A → ℕ → Bool
is_over w s depth = nat_lt (max_stack_of w (top s).method) depth

-- a place after the code of the method on top
abbrev pub is_past : {A : Type 0} → Linked → State A → ℕ → Bool
is_past w s place = nat_le (length (code_at w (top s).method)) place

-- of a stack of so many cells before the instruction at a place
abbrev pub fault_next : {A : Type 0} → Cells A → Linked → State A → ℕ → ℕ → Option Fault
fault_next k w s depth place =
    if not k.checks then None
    else if is_over w s depth then Some StackFault
    else if is_past w s place then Some JumpFault
    else None

abbrev pub is_there : Option Placed → Bool
is_there None = false
is_there (Some i) = true

abbrev pub is_target_place : List ℕ → ℤ → Bool
is_target_place code (pos place) = is_there (instruction_at code place)
is_target_place code (negsuc n) = false

abbrev pub fault_target : {A : Type 0} → Cells A → Linked → State A → ℤ → Option Fault
fault_target k w s to =
    if not k.checks then None
    else if is_over w s (length (top s).stack) then Some StackFault
    else if is_target_place (code_at w (top s).method) to then None
    else Some JumpFault

-- ---- the step

abbrev pub unless_fault : {A : Type 0} → State A → Option Fault → Outcome A → Outcome A
unless_fault s None outcome = outcome
unless_fault s (Some fault) outcome = ends (Faulted fault) s

-- the place of a number
abbrev pub place_number : ℤ → ℕ
place_number (pos place) = place
place_number (negsuc n) = 0

-- on to the next place in the state z; a run that ends here ends with the heap and the static fields of the state s, before the step
abbrev pub goes_to : {A : Type 0} → Cells A → Linked → ℕ → State A → State A → Outcome A
goes_to k w next s z = unless_fault s (fault_next k w z (length (top z).stack) next) (running (with_place z next))

abbrev pub jumps_to : {A : Type 0} → Cells A → Linked → ℤ → State A → Outcome A
jumps_to k w to s = unless_fault s (fault_target k w s to) (running (with_place s (place_number to)))

-- a new object, whose reference comes on the stack
abbrev pub with_new : {A : Type 0} → State A → ObjectKind → List A → A → State A
with_new s kind cells reference = let made = with_object s kind cells in with_stack made (reference ∷ (top s).stack)

abbrev pub made : {A : Type 0} → Cells A → Linked → ℕ → ObjectKind → List A → (ℕ → A) → State A → Outcome A
made k w next kind cells reference s =
    unless_fault s (fault_next k w s (length (top s).stack + 1) next)
    (if has_room s (length cells)
    then running (with_place (with_new s kind cells (reference (length s.heap + 1))) next)
    else ends (Plain HeapFull) s)

abbrev pub entered_call : {A : Type 0} → Cells A → Linked → ℕ → ℕ → State A → Outcome A
entered_call k w method count s =
    if nat_lt (length s.frames) frame_limit
    then running (with_call k w.methods s method count)
    else ends (Plain TooDeep) s

-- the place after the instruction of a call, where the caller goes on
abbrev pub return_place : Option Placed → ℕ
return_place None = 0
return_place (Some i) = i.place + i.insn.len

-- the first method of a run gives to the outside, another to its caller
abbrev pub given_to : {A : Type 0} → Cells A → Linked → Value → List A → State A → Outcome A
given_to k w value cells s =
    if nat_lt 0 (length s.frames)
    then
    goes_to k w (return_place (instruction_at (code_at w (top s).method) (top s).place)) s
    (with_stack s (with_value cells (top s).stack))
    else ends (Plain (Returned value)) s

-- what the act of the instruction before `next` leads to
abbrev pub settled : {A : Type 0} → Cells A → Linked → ℕ → State A → Act A → Outcome A
settled k w next s (goes z) = goes_to k w next s z
settled k w next s (jumps to z) = jumps_to k w to z
settled k w next s (makes kind cells reference z) = made k w next kind cells reference z
settled k w next s (calls method count z) = entered_call k w method count z
settled k w next s (gives value cells) = given_to k w value cells (without_top s)
settled k w next s (raises exception) = raised k w exception s
settled k w next s (throws handle) = thrown k w handle s
settled k w next s (lacks class) = ends (Plain (InterfaceMissing class)) s
