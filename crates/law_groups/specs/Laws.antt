-- Laws of the groups of rewritten code: each comes to what the instruction of its source does (Leroy 2002, section 4.1).
use Rattle.std.specs.Prelude.{◌≡◌, ◌+◌, ℕ, false, List, [], ◌∷◌, length, map, Some, None, Ok, slice_get}
use Rattle.jc_base.specs.declared.record.Handler.{Handler}
use Rattle.jc_base.specs.World.{Linked}
use Rattle.jc_decode.specs.declared.insn.Placed.{Placed}
use Rattle.jc_decode.specs.Symbols.{place_of}
use Rattle.jc_control.specs.Control.{IsReached, Covers}
use Rattle.jc_control.specs.WellFormed.{IsPlace, HasInstruction}
use Rattle.jc_ops.specs.declared.operation.Callee.{Callee}
use Rattle.jc_ops.specs.declared.operation.Operation.{Operation}
use Rattle.jc_ops.specs.declared.operation.Branch.TheVariants.{Always}
use Rattle.jc_ops.specs.declared.operation.Operation.TheVariants.{Branch, Call, Load}
use Rattle.jc_ops.specs.declared.operation.Sort.{Sort}
use Rattle.jc_ops.specs.Next.{jumps_from}
use Rattle.jc_rules.specs.Footprint.{registers_asked}
use Rattle.jc_rules.specs.Rule.{demands}
use Rattle.vm_store.specs.declared.cell.Cell.{Cell}
use Rattle.vm_store.specs.Cells.{tagged}
use Rattle.vm_store.specs.State.{State, Frame, entered, top}
use Rattle.vm_step.specs.Methods.{code_at, instruction_at, max_stack_of}
use Rattle.vm_step.specs.Raising.{Outcome, handler_for}
use Rattle.vm_step.specs.Settled.{return_place}
use Rattle.vm_step.specs.Step.{Steps}
use Rattle.law_alike.specs.Alike.{IsOneToOne, renamed_cell}
use Rattle.law_alike.specs.Running.{Executes}
use Rattle.xf_homes.specs.Walk.{operands_of}
use Rattle.xf_homes.specs.Source.{Source}
use Rattle.xf_homes.specs.Plan.{operation}
use Rattle.xf_emission.specs.Emission.{items}
use Rattle.xf_emission.specs.Jump.{handler_label}
use Rattle.law_homes.specs.Held.{HoldsLocals}
use Rattle.law_groups.specs.Laid.{IsLaidIn, body_at, rename}
use Rattle.law_groups.specs.Beside.{AreEqualBut, AreOf, IsAtGroup, IsTypedAt, IsUnderCall, StandsInGroup, StaysTyped}
use Rattle.law_groups.specs.Comes.{ComesToGroup, ComesWithin, GroupRuns}

-- ---- places

-- no two places of uninitialised objects become one
abbrev pub RenamesOneToOne : Linked → Type 0
RenamesOneToOne v = (w : Linked) (s : Source) (place : ℕ → ℕ) → IsLaidIn v w s place → IsOneToOne (rename s place)

-- ---- groups

-- from the group of a typed frame's place steps lead to what the step of the source comes to
abbrev pub RunFromGroups : Linked → Linked → Source → (ℕ → ℕ) → Type 0
RunFromGroups v w s place =
    (z t : State Cell) (o : Outcome Cell)
    → IsTypedAt v s z
    → IsAtGroup s place (top z) (top t)
    → AreEqualBut z t
    → Steps tagged v z o
    → StaysTyped v s o
    → GroupRuns v w s place z t o

abbrev pub GroupsRun : Linked → Type 0
GroupsRun v = (w : Linked) (s : Source) (place : ℕ → ℕ) → IsLaidIn v w s place → RunFromGroups v w s place

-- so it is where the operation names no register and leads to no target
abbrev pub KeptGroupsRun : Linked → Type 0
KeptGroupsRun v =
    (w : Linked) (s : Source) (place : ℕ → ℕ) (z t : State Cell) (o : Outcome Cell) (i : Placed) (op : Operation)
    → IsLaidIn v w s place
    → IsTypedAt v s z
    → IsAtGroup s place (top z) (top t)
    → AreEqualBut z t
    → Steps tagged v z o
    → StaysTyped v s o
    → Executes v z i op
    → jumps_from op ≡ false
    → registers_asked (demands v op) ≡ 0
    → GroupRuns v w s place z t o

-- and where it loads a local
abbrev pub LoadGroupsRun : Linked → Type 0
LoadGroupsRun v =
    (w : Linked) (s : Source) (place : ℕ → ℕ) (z t : State Cell) (o : Outcome Cell) (i : Placed) (letter : Sort) (x : ℕ)
    → IsLaidIn v w s place
    → IsTypedAt v s z
    → IsAtGroup s place (top z) (top t)
    → AreEqualBut z t
    → Steps tagged v z o
    → StaysTyped v s o
    → Executes v z i (Load letter x)
    → GroupRuns v w s place z t o

-- where it is a goto
abbrev pub GotoGroupsRun : Linked → Type 0
GotoGroupsRun v =
    (w : Linked) (s : Source) (place : ℕ → ℕ) (z t : State Cell) (o : Outcome Cell) (i : Placed)
    → IsLaidIn v w s place
    → IsTypedAt v s z
    → IsAtGroup s place (top z) (top t)
    → AreEqualBut z t
    → Steps tagged v z o
    → StaysTyped v s o
    → Executes v z i (Branch Always)
    → GroupRuns v w s place z t o

-- and where it is a conditional branch or a switch, with n cells of operands
abbrev pub ForkGroupsRun : Linked → Type 0
ForkGroupsRun v =
    (w : Linked) (s : Source) (place : ℕ → ℕ) (z t : State Cell) (o : Outcome Cell) (i : Placed) (op : Operation) (n : ℕ)
    → IsLaidIn v w s place
    → IsTypedAt v s z
    → IsAtGroup s place (top z) (top t)
    → AreEqualBut z t
    → Steps tagged v z o
    → StaysTyped v s o
    → Executes v z i op
    → operands_of v (Ok op) ≡ Some n
    → GroupRuns v w s place z t o

-- ---- after a call

-- a frame under a call goes on at the step after it, where an instruction is
pub record EndsAtNext (w : Linked) (s : Source) (place : ℕ → ℕ) (f g : Frame Cell) : Type 0 where
  pub next : return_place (instruction_at (code_at w g.method) g.place) ≡ place (body_at s f.place + 1)
  pub there : IsPlace (code_at w g.method) (place (body_at s f.place + 1))

abbrev pub EndCalls : Linked → Source → (ℕ → ℕ) → Type 0
EndCalls w s place = (f g : Frame Cell) → IsReached s.method f.place → IsUnderCall s place f g → EndsAtNext w s place f g

abbrev pub CallsEnd : Linked → Type 0
CallsEnd v = (w : Linked) (s : Source) (place : ℕ → ℕ) → IsLaidIn v w s place → EndCalls w s place

-- the stack of a laid method has room for one cell more
abbrev pub HasMoreRoom : Linked → Linked → Source → Type 0
HasMoreRoom v w s = max_stack_of w s.method.number ≡ max_stack_of v s.method.number + 1

abbrev pub HasRoomForMore : Linked → Type 0
HasRoomForMore v = (w : Linked) (s : Source) (place : ℕ → ℕ) → IsLaidIn v w s place → HasMoreRoom v w s

-- the frames after the call of the instruction i, with the result on their stacks
pub record IsAfterCall (s : Source) (place : ℕ → ℕ) (i : Placed) (f g : Frame Cell) : Type 0 where
  pub stands : HasInstruction s.method.code i
  pub reached : IsReached s.method i.place
  pub callee : Callee
  pub calls : operation s i ≡ Ok (Call callee)
  pub next : f.place ≡ i.place + i.insn.len
  pub of : AreOf s f g
  pub at : g.place ≡ place (body_at s i.place + 1)
  pub stack : g.stack ≡ map (renamed_cell (rename s place)) f.stack
  pub locals : HoldsLocals s i.place f g

-- after a call at most 1,000 steps lead to the group of the next place
abbrev pub ReturnToGroups : Linked → Linked → Source → (ℕ → ℕ) → Type 0
ReturnToGroups v w s place =
    (z t : State Cell) (i : Placed)
    → IsTypedAt v s z
    → AreEqualBut z t
    → IsAfterCall s place i (top z) (top t)
    → ComesWithin w 0 1000 t (ComesToGroup s place z t)

abbrev pub CallsReturn : Linked → Type 0
CallsReturn v = (w : Linked) (s : Source) (place : ℕ → ℕ) → IsLaidIn v w s place → ReturnToGroups v w s place

-- ---- at a handler

-- the frames where the n-th handler caught an object at the place p
pub record IsCaughtInGroup (s : Source) (place : ℕ → ℕ) (n : ℕ) (h : Handler) (p : ℕ) (f g : Frame Cell) : Type 0 where
  pub listed : slice_get s.method.rec.handlers n ≡ Some h
  pub reached : IsReached s.method p
  pub covers : Covers h p
  pub of : AreOf s f g
  pub entry : f.place ≡ h.entry
  pub at : g.place ≡ place (place_of (handler_label n) (items s))
  pub object : ℕ
  pub source : f.stack ≡ tagged.reference object ∷ []
  pub target : g.stack ≡ tagged.reference object ∷ []
  pub locals : HoldsLocals s p f g

-- from its stub at least one step and at most 1,000 lead to the group of the entry
abbrev pub EnterFromStubs : Linked → Linked → Source → (ℕ → ℕ) → Type 0
EnterFromStubs v w s place =
    (z t : State Cell) (n p : ℕ) (h : Handler)
    → IsTypedAt v s z
    → AreEqualBut z t
    → IsCaughtInGroup s place n h p (top z) (top t)
    → ComesWithin w 1 1000 t (ComesToGroup s place z t)

abbrev pub HandlersEnter : Linked → Type 0
HandlersEnter v = (w : Linked) (s : Source) (place : ℕ → ℕ) → IsLaidIn v w s place → EnterFromStubs v w s place

-- from a step of the group of a place the same handler catches as from that place, in the target at its stub
pub data CatchAlike (v w : Linked) (s : Source) (place : ℕ → ℕ) (class : ℕ) (f g : Frame Cell) : Type 0 where
  none_catches : handler_for v class f ≡ None → handler_for w class g ≡ None → CatchAlike v w s place class f g
  both_catch :
      (n : ℕ) (h k : Handler)
      → handler_for v class f ≡ Some h
      → slice_get s.method.rec.handlers n ≡ Some h
      → Covers h f.place
      → handler_for w class g ≡ Some k
      → k.entry ≡ place (place_of (handler_label n) (items s))
      → CatchAlike v w s place class f g

abbrev pub CatchInGroups : Linked → Linked → Source → (ℕ → ℕ) → Type 0
CatchInGroups v w s place =
    (class : ℕ) (f g : Frame Cell)
    → IsReached s.method f.place
    → StandsInGroup s place f g
    → CatchAlike v w s place class f g

abbrev pub GroupsCatch : Linked → Type 0
GroupsCatch v = (w : Linked) (s : Source) (place : ℕ → ℕ) → IsLaidIn v w s place → CatchInGroups v w s place

-- ---- at the start

-- from the method's start at most 1,000 steps lead to the group of its first place
abbrev pub EnterFromStart : Linked → Linked → Source → (ℕ → ℕ) → Type 0
EnterFromStart v w s place =
    (z t : State Cell) (args : List Cell)
    → IsTypedAt v s z
    → AreEqualBut z t
    → length args ≡ s.method.rec.nargs
    → top z ≡ entered tagged v.methods s.method.number args
    → top t ≡ entered tagged w.methods s.method.number args
    → ComesWithin w 0 1000 t (ComesToGroup s place z t)

abbrev pub StartsEnter : Linked → Type 0
StartsEnter v = (w : Linked) (s : Source) (place : ℕ → ℕ) → IsLaidIn v w s place → EnterFromStart v w s place
