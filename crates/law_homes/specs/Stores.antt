-- A store of the source in rewritten code: the value goes into the first home that is needed afterwards, and from there to the
-- others; where none is needed, it is popped (Leroy 2002, section 4.1).
use Rattle.std.specs.Prelude.{◌≡◌, ◌≤◌, ◌+◌, ◌++◌, ℕ, List, length}
use Rattle.jc_base.specs.declared.ty.Ty.TheVariants.{Bottom}
use Rattle.jc_base.specs.Each.{Each}
use Rattle.jc_base.specs.World.{Linked}
use Rattle.jc_decode.specs.Symbols.{Step}
use Rattle.jc_ops.specs.declared.operation.Operation.TheVariants.{Load}
use Rattle.jc_ops.specs.declared.operation.Sort.{Sort}
use Rattle.jc_rules.specs.Demand.{SatisfiesAll}
use Rattle.jc_rules.specs.Rule.{demands}
use Rattle.vm_store.specs.declared.cell.Cell.{Cell}
use Rattle.vm_store.specs.Cells.{tagged}
use Rattle.vm_store.specs.Objects.{kinds}
use Rattle.vm_store.specs.State.{State, Frame, top}
use Rattle.vm_step.specs.Raising.{running}
use Rattle.vm_step.specs.Run.{Runs}
use Rattle.law_sound.specs.Frames.{types_of_frame}
use Rattle.xf_homes.specs.declared.home.Home.{Home}
use Rattle.xf_homes.specs.Laws.{HasRegister}
use Rattle.xf_homes.specs.Source.{Source}
use Rattle.xf_homes.specs.Plan.{needed}
use Rattle.xf_emission.specs.Group.{store_to_homes}
use Rattle.law_rewritten_typing.specs.Planned.{IsPlanned}
use Rattle.law_homes.specs.Edges.{insns, top_at, IsBeside}
use Rattle.law_homes.specs.Held.{HoldsValue}
use Rattle.law_homes.specs.Moves.{AreFilled, IsAtStep, InstructionsStandFrom, value_in_register}

-- the frame of the source has a value of the letter in local x
pub record HasLocal (w : Linked) (t : State Cell) (letter : Sort) (x : ℕ) (f : Frame Cell) : Type 0 where
  pub asked : SatisfiesAll w.classes (types_of_frame w.classes Bottom (kinds t) f) (demands w (Load letter x))
  pub filled : AreFilled letter x f.registers

-- after the moves: the local stands in all homes that are needed at q, and every value that is as before in that in which it stood
pub record IsInHomes (w : Linked) (s : Source) (q x : ℕ) (f : Frame Cell) (t : State Cell) (stack : List Cell) (n last : ℕ) : Type 0
  where
    pub registers : List Cell
    pub runs : Runs tagged w n t (running (top_at t last registers stack))
    pub count : length registers ≡ length (top t).registers
    pub values : Each (HoldsValue s f.registers (record (top t) { registers = registers })) (needed s q x)
    pub others :
        (h : Home)
        → HasRegister s.homes h
        → HoldsValue s f.registers (top t) h
        → HoldsValue s f.registers (record (top t) { registers = registers }) h

-- the frame f is the source's after its store, at the place q; its value lies on the stack of t
abbrev pub StoresRun : Linked → Linked → Type 0
StoresRun v w =
    (place : ℕ → ℕ) (steps : List Step) (t : State Cell) (n : ℕ) (s : Source) (letter : Sort) (q x : ℕ) (f : Frame Cell)
    (stack : List Cell)
    → s.world ≡ v
    → IsPlanned s
    → IsBeside w s q f t
    → HasLocal w t letter x f
    → IsAtStep w place steps t n (length (insns (store_to_homes s letter (needed s q x))))
    → InstructionsStandFrom steps n (insns (store_to_homes s letter (needed s q x)))
    → (top t).stack ≡ value_in_register letter x f.registers ++ stack
    → length (top t).stack ≤ s.method.rec.max_stack
    → IsInHomes w s q x f t stack (length (insns (store_to_homes s letter (needed s q x))))
    (place (n + length (insns (store_to_homes s letter (needed s q x)))))
