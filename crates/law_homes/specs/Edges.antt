-- Lists of moves that rewritten code takes alone: a leader's loads, the stores of a stack into homes, and the copies of an edge (Leroy
-- 2002, section 4.1). The frame on top of the state t runs rewritten code; the frame f is that of the source beside it.
use Rattle.std.specs.Prelude.{◌≡◌, ◌↔◌, ◌<◌, ◌≤◌, ◌+◌, ◌*◌, ◌++◌, ℕ, true, false, List, [], ◌∷◌}
use Rattle.std.specs.Prelude.{drop, length, map, replicate, take, IfSome, Ok, Some}
use Rattle.jc_base.specs.declared.ty.Ty.TheVariants.{Top}
use Rattle.jc_base.specs.Each.{Each, IsAmong}
use Rattle.jc_base.specs.World.{Linked}
use Rattle.jc_decode.specs.declared.insn.Insn.{Insn}
use Rattle.jc_decode.specs.declared.insn.Placed.{Placed}
use Rattle.jc_decode.specs.declared.symbols.Item.{Item}
use Rattle.jc_decode.specs.declared.symbols.Item.TheVariants.{Plain}
use Rattle.jc_decode.specs.Symbols.{Step}
use Rattle.jc_ops.specs.declared.operation.Operation.{Operation}
use Rattle.jc_control.specs.WellFormed.{HasInstruction}
use Rattle.jc_rules.specs.Flow.{At, FrameBelow}
use Rattle.vm_store.specs.declared.cell.Cell.{Cell}
use Rattle.vm_store.specs.declared.cell.Cell.TheVariants.{Empty}
use Rattle.vm_store.specs.Cells.{tagged}
use Rattle.vm_store.specs.Objects.{kinds}
use Rattle.vm_store.specs.State.{State, Frame, top, with_top}
use Rattle.vm_step.specs.Methods.{max_stack_of}
use Rattle.vm_step.specs.Raising.{running}
use Rattle.vm_step.specs.Run.{Runs}
use Rattle.law_sound.specs.Frames.{types_of_frame}
use Rattle.law_alike.specs.Alike.{renamed_cell}
use Rattle.xf_homes.specs.declared.home.Home.{Home}
use Rattle.xf_homes.specs.Home.{register_count, argument_types, KeepsStack}
use Rattle.xf_homes.specs.Laws.{HasRegister}
use Rattle.xf_homes.specs.Order.{register_sum}
use Rattle.xf_homes.specs.Value.{type_width}
use Rattle.xf_homes.specs.Walk.{operands_of}
use Rattle.xf_homes.specs.Source.{Source}
use Rattle.xf_homes.specs.Plan.{stack_homes, needed, operation}
use Rattle.xf_emission.specs.declared.origin.Origin.{Origin}
use Rattle.xf_emission.specs.declared.origin.Origin.TheVariants.{Start, After}
use Rattle.xf_emission.specs.Edge.{is_stored, home_before, copies, cell_copies}
use Rattle.xf_emission.specs.Jump.{has_under, operands, under}
use Rattle.xf_emission.specs.Move.{loads, spill}
use Rattle.law_rewritten_typing.specs.Planned.{IsPlanned}
use Rattle.law_rewritten_typing.specs.Edges.{AreMatched, LeadsTo}
use Rattle.law_homes.specs.Held.{HoldsValue, HoldsLocals, Waits, slots}
use Rattle.law_homes.specs.Moves.{InstructionsStandFrom, IsAtStep}

-- the instructions among items that name no label: of moves all
abbrev pub insns : List Item → List Insn
insns [] = []
insns (Plain i ∷ items) = i ∷ insns items
insns (item ∷ items) = insns items

-- the frame on top at a place, with these registers and this stack; all else is as before
abbrev pub top_at : State Cell → ℕ → List Cell → List Cell → State Cell
top_at t place registers stack = with_top t (record (top t) { place = place; registers = registers; stack = stack })

-- the state beside a frame of the source at the place q: the types of that frame's cells are below those there, and the frame on top has a
-- register for each of the homes', and room for one cell more on its stack
pub record IsBeside (w : Linked) (s : Source) (q : ℕ) (f : Frame Cell) (t : State Cell) : Type 0 where
  pub classes : w.classes ≡ s.world.classes
  pub typed : At s.frames q (FrameBelow w.classes (types_of_frame w.classes Top (kinds t) f))
  pub count : length (top t).registers ≡ register_sum s.homes
  pub room : s.method.rec.max_stack < max_stack_of w (top t).method

-- ---- stacks

-- a leader's loads put the stack back
abbrev pub LeadersLoad : Linked → Linked → Type 0
LeadersLoad v w =
    (place : ℕ → ℕ) (steps : List Step) (t : State Cell) (n : ℕ) (s : Source) (q : ℕ) (f : Frame Cell)
    → s.world ≡ v
    → IsPlanned s
    → IsBeside w s q f t
    → KeepsStack s.world s.method s.frames q
    → IsAtStep w place steps t n (length (stack_homes s q))
    → InstructionsStandFrom steps n (insns (loads s (stack_homes s q)))
    → Waits s q f (top t)
    → Runs tagged w (length (stack_homes s q)) t (running (top_at t (place (n + length (stack_homes s q))) (top t).registers f.stack))

-- no more cells are kept than a stack has
abbrev pub CellsAreFew : Linked → Type 0
CellsAreFew v =
    (s : Source) (q : ℕ)
    → s.world ≡ v
    → IsPlanned s
    → KeepsStack s.world s.method s.frames q
    → length (stack_homes s q) ≤ s.method.rec.max_stack

-- where a stack is kept, it has no uninitialised object
abbrev pub KeptStacksStay : Linked → Linked → Type 0
KeptStacksStay v w =
    (s : Source) (q : ℕ) (f : Frame Cell) (t : State Cell) (e : ℕ → ℕ)
    → s.world ≡ v
    → IsPlanned s
    → IsBeside w s q f t
    → KeepsStack s.world s.method s.frames q
    → map (renamed_cell e) f.stack ≡ f.stack

-- after the stores of a stack into homes: each of its values stands in its home, and every local in those in which it stood
pub record AreSpilled (w : Linked) (s : Source) (q : ℕ) (f : Frame Cell) (t : State Cell) (last : ℕ) : Type 0 where
  pub registers : List Cell
  pub runs : Runs tagged w (length (stack_homes s q)) t (running (top_at t last registers []))
  pub count : length registers ≡ length (top t).registers
  pub cells : Each (HoldsValue s (slots f) (record (top t) { registers = registers })) (stack_homes s q)
  pub others :
      (values : List Cell) (h : Home)
      → HasRegister s.homes h
      → h.slot < register_count s.method.rec
      → HoldsValue s values (top t) h
      → HoldsValue s values (record (top t) { registers = registers }) h

-- the stores of a stack run one after the other, that of the top first
abbrev pub StacksSpill : Linked → Linked → Type 0
StacksSpill v w =
    (place : ℕ → ℕ) (steps : List Step) (t : State Cell) (n : ℕ) (s : Source) (q : ℕ) (f : Frame Cell)
    → s.world ≡ v
    → IsPlanned s
    → IsBeside w s q f t
    → KeepsStack s.world s.method s.frames q
    → IsAtStep w place steps t n (length (stack_homes s q))
    → InstructionsStandFrom steps n (insns (spill s (stack_homes s q)))
    → (top t).stack ≡ f.stack
    → AreSpilled w s q f t (place (n + length (stack_homes s q)))

-- ---- locals

-- once the operation of the place p has run, before control goes to q: what it stored stands in all homes that are needed there, and the
-- other values in those in which they had to stand before
pub record HoldsAfter (s : Source) (p : ℕ) (op : Operation) (q : ℕ) (f g : Frame Cell) : Type 0 where
  pub stored : (x : ℕ) → is_stored op x ≡ true → Each (HoldsValue s f.registers g) (needed s q x)
  pub others :
      (x : ℕ)
      → Each (λ h. ((k : ℕ) → k < type_width h.ty → is_stored op (h.slot + k) ≡ false) → HoldsValue s f.registers g h)
      (needed s p x)

-- where an edge begins that leads to q
abbrev pub HoldsBefore : Source → Origin → ℕ → Frame Cell → Frame Cell → Type 0
HoldsBefore s (After p op) q f g = HoldsAfter s p op q f g
HoldsBefore s o q f g = (x : ℕ) → IfSome (home_before s o x) (HoldsValue s f.registers g)

-- after the copies of an edge to q: each local stands in all homes that are needed there, and every cell of the stack in that in which it
-- stood
pub record AreCarried (w : Linked) (s : Source) (q : ℕ) (f : Frame Cell) (t : State Cell) (n last : ℕ) : Type 0 where
  pub registers : List Cell
  pub runs : Runs tagged w n t (running (top_at t last registers (top t).stack))
  pub count : length registers ≡ length (top t).registers
  pub locals : HoldsLocals s q f (record (top t) { registers = registers })
  pub others :
      (h : Home)
      → HasRegister s.homes h
      → HoldsValue s (slots f) (top t) h
      → HoldsValue s (slots f) (record (top t) { registers = registers }) h

-- the copies of an edge run one after the other
abbrev pub EdgesRun : Linked → Linked → Type 0
EdgesRun v w =
    (place : ℕ → ℕ) (steps : List Step) (t : State Cell) (n : ℕ) (s : Source) (o : Origin) (q : ℕ) (f : Frame Cell)
    → s.world ≡ v
    → IsPlanned s
    → IsBeside w s q f t
    → LeadsTo s o q
    → IsAtStep w place steps t n (length (insns (copies s o q)))
    → InstructionsStandFrom steps n (insns (copies s o q))
    → length (top t).stack ≤ s.method.rec.max_stack
    → HoldsBefore s o q f (top t)
    → AreCarried w s q f t (length (insns (copies s o q))) (place (n + length (insns (copies s o q))))

-- there are at most so many copies on an edge
abbrev pub CopiesAreFew : Linked → Type 0
CopiesAreFew v =
    (s : Source) (o : Origin) (q : ℕ)
    → s.world ≡ v
    → IsPlanned s
    → LeadsTo s o q
    → length (insns (copies s o q)) ≤ 2 * 255

-- ---- cells

-- after the copies of cells: the values stand in the second homes, and every value in that in which it stood
pub record AreMoved (w : Linked) (s : Source) (f : Frame Cell) (t : State Cell) (ks : List Home) (n last : ℕ) : Type 0 where
  pub registers : List Cell
  pub runs : Runs tagged w n t (running (top_at t last registers (top t).stack))
  pub count : length registers ≡ length (top t).registers
  pub cells : Each (HoldsValue s (slots f) (record (top t) { registers = registers })) ks
  pub others :
      (h : Home)
      → HasRegister s.homes h
      → HoldsValue s (slots f) (top t) h
      → HoldsValue s (slots f) (record (top t) { registers = registers }) h

-- the values of a frame's stack that stand in homes are copied to others, one after the other
abbrev pub CellsRun : Linked → Linked → Type 0
CellsRun v w =
    (place : ℕ → ℕ) (steps : List Step) (t : State Cell) (n : ℕ) (s : Source) (q : ℕ) (f : Frame Cell) (hs ks : List Home)
    → s.world ≡ v
    → IsPlanned s
    → IsBeside w s q f t
    → AreMatched s hs ks
    → IsAtStep w place steps t n (length (insns (cell_copies s hs ks)))
    → InstructionsStandFrom steps n (insns (cell_copies s hs ks))
    → length (top t).stack ≤ s.method.rec.max_stack
    → ((k : Home) → IsAmong k ks → IsAmong k (stack_homes s q))
    → KeepsStack s.world s.method s.frames q
    → Each (HoldsValue s (slots f) (top t)) hs
    → AreMoved w s f t ks (length (insns (cell_copies s hs ks))) (place (n + length (insns (cell_copies s hs ks))))

-- ---- conditional branches and switches over a deeper stack

-- the stack f.stack with k operands on top is stored in homes; the loads of the operands put these back
abbrev pub OperandsLoad : Linked → Linked → Type 0
OperandsLoad v w =
    (place : ℕ → ℕ) (steps : List Step) (t : State Cell) (n : ℕ) (s : Source) (i : Placed) (op : Operation) (k : ℕ)
    (f : Frame Cell)
    → s.world ≡ v
    → IsPlanned s
    → IsBeside w s i.place f t
    → HasInstruction s.method.code i
    → operation s i ≡ Ok op
    → operands_of s.world (Ok op) ≡ Some k
    → has_under s i.place k ≡ true
    → IsAtStep w place steps t n (length (operands s i.place k))
    → InstructionsStandFrom steps n (insns (loads s (operands s i.place k)))
    → (top t).stack ≡ []
    → Each (HoldsValue s (slots f) (top t)) (stack_homes s i.place)
    → Runs tagged w (length (operands s i.place k)) t
    (running (top_at t (place (n + length (operands s i.place k))) (top t).registers (take k f.stack)))

-- and those of the cells under them put these back
abbrev pub UnderLoads : Linked → Linked → Type 0
UnderLoads v w =
    (place : ℕ → ℕ) (steps : List Step) (t : State Cell) (n : ℕ) (s : Source) (i : Placed) (op : Operation) (k : ℕ)
    (f : Frame Cell)
    → s.world ≡ v
    → IsPlanned s
    → IsBeside w s i.place f t
    → HasInstruction s.method.code i
    → operation s i ≡ Ok op
    → operands_of s.world (Ok op) ≡ Some k
    → has_under s i.place k ≡ true
    → IsAtStep w place steps t n (length (under s i.place k))
    → InstructionsStandFrom steps n (insns (loads s (under s i.place k)))
    → (top t).stack ≡ []
    → Each (HoldsValue s (slots f) (top t)) (under s i.place k)
    → Runs tagged w (length (under s i.place k)) t
    (running (top_at t (place (n + length (under s i.place k))) (top t).registers (drop k f.stack)))

-- the cells under the operands stand in their homes after the branch as before it: its frame y is f without the operands
abbrev pub UnderHold : Linked → Linked → Type 0
UnderHold v w =
    (t : State Cell) (s : Source) (i : Placed) (op : Operation) (k : ℕ) (f y g : Frame Cell)
    → s.world ≡ v
    → IsPlanned s
    → IsBeside w s i.place f t
    → HasInstruction s.method.code i
    → operation s i ≡ Ok op
    → operands_of s.world (Ok op) ≡ Some k
    → has_under s i.place k ≡ true
    → y.registers ≡ f.registers
    → y.stack ≡ drop k f.stack
    → Each (HoldsValue s (slots f) g) (under s i.place k) ↔ Each (HoldsValue s (slots y) g) (under s i.place k)

-- ---- the start

-- the arguments of a call stand in their homes
abbrev pub StartsHold : Linked → Type 0
StartsHold v =
    (s : Source) (f g : Frame Cell) (args : List Cell) (a b : ℕ)
    → s.world ≡ v
    → IsPlanned s
    → f.registers ≡ args ++ replicate a Empty
    → g.registers ≡ args ++ replicate b Empty
    → length args ≡ length (argument_types s.method.rec)
    → HoldsBefore s Start 0 f g
