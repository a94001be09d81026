-- The machine of a bare method: its state, its step and its runs (JCVM 2.2, sections 3.5 and 3.7). An operand
-- that is missing, a register or a place that is not there ends the run with a fault: a machine that checks each
-- of them, and the measure of code that never makes it do so.
use Rattle.std.specs.Prelude.{ℕ, zero, suc, ◌≡◌, ℤ, pos, Bool, true, List, [], ◌∷◌, ◌++◌, length, drop, replicate}
use Rattle.std.specs.Prelude.{slice_index_or, slice_set, Option, Some, None, Result, Ok, Err, nat_lt, if◌then◌else◌}
use Rattle.std.specs.Int.{w16, int_wrapping_add, int_wrapping_neg}
use Rattle.std.specs.Option.{unwrap_or}
use Rattle.jc_decode.specs.declared.insn.CodeEnd.{CodeEnd}
use Rattle.jc_decode.specs.declared.insn.Insn.{Insn}
use Rattle.jc_decode.specs.declared.insn.Placed.{Placed}
use Rattle.jc_decode.specs.Listing.{targets}
use Rattle.jc_decode.specs.Places.{place_after}
use Rattle.jc_ops.specs.declared.operation.Operator.{Operator}
use Rattle.vm_arithmetic.specs.Arithmetic.{of_shorts, short_to_byte, succeeds}
use Rattle.cap_bare.specs.declared.format.Bare.{Bare}
use Rattle.cap_bare.specs.declared.run.BareEnd.{BareEnd}
use Rattle.cap_bare.specs.declared.run.BareEnd.TheVariants.{Returned, Spent}
use Rattle.cap_bare.specs.declared.instruction.Instruction.{Instruction}
use Rattle.cap_bare.specs.declared.instruction.Instruction.TheVariants.{Nop, Push, Load, Store, Increment, Pop, Duplicate, Negate, ToByte}
use Rattle.cap_bare.specs.declared.instruction.Instruction.TheVariants.{Binary, Test, Compare, Goto, Return}
use Rattle.cap_bare.specs.Effects.{register_of, cells_taken}
use Rattle.cap_bare.specs.Format.{instruction_of}
use Rattle.cap_bare.specs.Code.{fetched}
use Rattle.cap_bare.specs.Walk.{is_place}
use Rattle.cap_bare.specs.Typing.{register_count}

-- the shorts in the registers, and those on the stack, top first
pub record BareFrame : Type 0 where
  pub registers : List ℤ
  pub stack : List ℤ

-- a frame before the instruction at a place
pub record BareState : Type 0 where
  pub place : ℕ
  pub frame : BareFrame

-- a place that is none, a register that the method doesn't have, too few or too many cells
pub data Fault : Type 0 where
  jump_fault : Fault
  local_fault : Fault
  stack_fault : Fault

pub data BareOutcome : Type 0 where
  running : BareState → BareOutcome
  returned : ℤ → BareOutcome
  faulted : Fault → BareOutcome

-- where an instruction leads: to a place with a frame, or out of the method with its result
pub data Lead : Type 0 where
  leads : ℤ → BareFrame → Lead
  gives : ℤ → Lead

abbrev pub top_of_stack : List ℤ → ℤ
top_of_stack stack = slice_index_or stack 0 (pos 0)

abbrev pub second : List ℤ → ℤ
second stack = slice_index_or stack 1 (pos 0)

abbrev pub frame : List ℤ → List ℤ → BareFrame
frame registers stack = record { registers = registers; stack = stack }

-- bare methods have no division, and so a result for any two shorts
abbrev pub binary : Operator → ℤ → ℤ → ℤ
binary operator a b = unwrap_or (of_shorts operator a b) (pos 0)

-- what an instruction that names the target t does with the registers r and the stack s, before the instruction at
-- `next` (JCVM 2.2, chapter 7)
abbrev pub acted : Instruction → ℤ → ℕ → List ℤ → List ℤ → Lead
acted Nop t next r s = leads (pos next) (frame r s)
acted (Push n) t next r s = leads (pos next) (frame r (n ∷ s))
acted (Load x) t next r s = leads (pos next) (frame r (slice_index_or r x (pos 0) ∷ s))
acted (Store x) t next r s = leads (pos next) (frame (slice_set r x (top_of_stack s)) (drop 1 s))
acted (Increment x n) t next r s = leads (pos next) (frame (slice_set r x (int_wrapping_add w16 (slice_index_or r x (pos 0)) n)) s)
acted Pop t next r s = leads (pos next) (frame r (drop 1 s))
acted Duplicate t next r s = leads (pos next) (frame r (top_of_stack s ∷ s))
acted Negate t next r s = leads (pos next) (frame r (int_wrapping_neg w16 (top_of_stack s) ∷ drop 1 s))
acted ToByte t next r s = leads (pos next) (frame r (short_to_byte (top_of_stack s) ∷ drop 1 s))
acted (Binary operator) t next r s = leads (pos next) (frame r (binary operator (second s) (top_of_stack s) ∷ drop 2 s))
acted (Test order) t next r s = leads (if succeeds order (top_of_stack s) (pos 0) then t else pos next) (frame r (drop 1 s))
acted (Compare order) t next r s = leads (if succeeds order (second s) (top_of_stack s) then t else pos next) (frame r (drop 2 s))
acted Goto t next r s = leads t (frame r s)
acted Return t next r s = gives (top_of_stack s)

-- the place that an instruction names, if it names one
abbrev pub branch_target : List ℕ → Placed → ℤ
branch_target code i = slice_index_or (targets code i) 0 (pos 0)

-- what an instruction of the code does in a frame
abbrev pub acts : List ℕ → Placed → BareFrame → Lead
acts code i f = acted (instruction_of i.insn) (branch_target code i) (place_after i) f.registers f.stack

abbrev pub has_register : Bare → Option ℕ → Bool
has_register bare None = true
has_register bare (Some x) = nat_lt x (register_count bare)

abbrev pub place_number : ℤ → ℕ
place_number (pos place) = place
place_number _ = 0

-- the tests after an instruction: room on the stack, and a place to go on at
abbrev pub settled : List ℕ → Bare → Lead → BareOutcome
settled code bare (gives n) = returned n
settled code bare (leads to f) =
    if nat_lt bare.max_stack (length f.stack) then faulted stack_fault
    else if is_place code to then running (record { place = place_number to; frame = f })
    else faulted jump_fault

-- the tests before an instruction: its register, and cells enough
abbrev pub performed : List ℕ → Bare → BareState → Result Insn CodeEnd → BareOutcome
performed code bare s (Err end) = faulted jump_fault
performed code bare s (Ok insn) =
    if has_register bare (register_of (instruction_of insn))
    then (if nat_lt (length s.frame.stack) (cells_taken (instruction_of insn)) then faulted stack_fault
    else settled code bare (acts code (record { place = s.place; insn = insn }) s.frame))
    else faulted local_fault

-- one step
unfoldable pub step : List ℕ → Bare → BareState → BareOutcome
step code bare s = if is_place code (pos s.place) then performed code bare s (fetched code s.place) else faulted jump_fault

abbrev pub go_on : BareOutcome → (BareState → BareOutcome) → BareOutcome
go_on (running s) rest = rest s
go_on (returned n) rest = returned n
go_on (faulted f) rest = faulted f

-- the ending, where one comes within so many steps, and else the state after them
unfoldable pub after : ℕ → List ℕ → Bare → BareState → BareOutcome
after zero code bare s = running s
after (suc n) code bare s = go_on (step code bare s) (after n code bare)

-- a method is entered with its arguments in the first registers, and 0 in the others
abbrev pub entered : Bare → List ℤ → BareState
entered bare args = record { place = 0; frame = frame (args ++ replicate bare.max_locals (pos 0)) [] }

abbrev pub IsFault : BareOutcome → Type 0
IsFault (faulted f) = Unit {0}
IsFault _ = ⊥

-- no number of steps from here meets a fault
abbrev pub IsSafe : List ℕ → Bare → BareState → Type 0
IsSafe code bare s = (n : ℕ) → IsFault (after n code bare s) → ⊥

-- no arguments make a run that meets a fault
abbrev pub IsFaultFree : List ℕ → Bare → Type 0
IsFaultFree code bare = (args : List ℤ) → length args ≡ bare.nargs → IsSafe code bare (entered bare args)

-- a run's answer: the result, or that no ending is reached
abbrev pub RunAnswers : BareEnd → BareOutcome → Type 0
RunAnswers (Returned n) outcome = outcome ≡ returned n
RunAnswers Spent outcome = (s : BareState) × (outcome ≡ running s)
