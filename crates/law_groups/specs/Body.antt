-- Between the instruction of a group and the way into the next place.
use Rattle.std.specs.Prelude.{◌≡◌, ◌+◌, ℕ, true, false, [], ◌∷◌, is_some, map, Ok}
use Rattle.jc_base.specs.World.{Linked}
use Rattle.jc_decode.specs.declared.insn.Placed.{Placed}
use Rattle.jc_decode.specs.declared.symbols.Item.TheVariants.{Plain}
use Rattle.jc_control.specs.WellFormed.{HasInstruction}
use Rattle.jc_ops.specs.declared.operation.Operation.{Operation}
use Rattle.jc_ops.specs.Next.{falls_from, jumps_from}
use Rattle.jc_rules.specs.Footprint.{registers_asked}
use Rattle.jc_rules.specs.Rule.{demands}
use Rattle.vm_store.specs.declared.cell.Cell.{Cell}
use Rattle.vm_store.specs.Cells.{tagged}
use Rattle.vm_store.specs.State.{State, top}
use Rattle.vm_step.specs.Raising.{Outcome, running}
use Rattle.vm_step.specs.Step.{Steps}
use Rattle.law_erasure.specs.Erasure.{IsNoFault}
use Rattle.law_alike.specs.Alike.{renamed_cell}
use Rattle.law_alike.specs.Running.{Executes}
use Rattle.xf_homes.specs.Source.{Source}
use Rattle.xf_homes.specs.Plan.{operation}
use Rattle.xf_emission.specs.Group.{body}
use Rattle.law_homes.specs.Held.{HoldsFrame}
use Rattle.law_homes.specs.Edges.{HoldsAfter}
use Rattle.law_groups.specs.Laid.{IsLaidIn, body_at, count_of, rename}
use Rattle.law_groups.specs.Beside.{AreEqualBut, AreOf, IsTypedAt, SameUnder}
use Rattle.law_groups.specs.Comes.{ComesWithin, GroupComes}

-- states after the instruction: equal objects and static fields, frames of the method on top, with equal stacks
pub record AreAfter (s : Source) (place : ℕ → ℕ) (p : ℕ) (op : Operation) (z t y u : State Cell) : Type 0 where
  pub first : SameUnder z y
  pub second : SameUnder t u
  pub equal : AreEqualBut y u
  pub of : AreOf s (top y) (top u)
  pub stack : (top u).stack ≡ map (renamed_cell (rename s place)) (top y).stack
  pub holds : HoldsAfter s p op (top y).place (top y) (top u)

-- what the steps for the instruction i come to: they go on after it, or another method runs next, or none
pub data BodyComes
    (v w : Linked) (s : Source) (place : ℕ → ℕ) (i : Placed) (op : Operation) (z t : State Cell)
    : Outcome Cell → Outcome Cell → Type 0
  where
    body_falls :
        {y u : State Cell}
        → AreAfter s place i.place op z t y u
        → falls_from op ≡ true
        → (top y).place ≡ i.place + i.insn.len
        → (top u).place ≡ place (body_at s i.place + count_of (body s i op))
        → BodyComes v w s place i op z t (running y) (running u)
    body_done : {o p : Outcome Cell} → GroupComes v w s place z t o p → BodyComes v w s place i op z t o p

-- before the instruction i of the source, with the operation op, in the state z; the target t is at the first step after the loads of the
-- group, and holds z
pub record AreAtBody (v w : Linked) (s : Source) (place : ℕ → ℕ) (i : Placed) (op : Operation) (z t : State Cell) : Type 0 where
  pub executes : Executes v z i op
  pub stands : HasInstruction s.method.code i
  pub reached : is_some (s.frames i.place) ≡ true
  pub does : operation s i ≡ Ok op
  pub typed : IsTypedAt v s z
  pub equal : AreEqualBut z t
  pub of : AreOf s (top z) (top t)
  pub here : (top z).place ≡ i.place
  pub at : (top t).place ≡ place (body_at s i.place)
  pub held : HoldsFrame (renamed_cell (rename s place)) s i.place (top z) (top t)

-- the steps of the target for that instruction: one at least, and no more than a store with its copies takes
abbrev pub BodyRuns :
    Linked → Linked → Source → (ℕ → ℕ) → Placed → Operation → State Cell → State Cell → Outcome Cell → Type 0
BodyRuns v w s place i op z t o = ComesWithin w 1 600 t (BodyComes v w s place i op z t o)

-- so it is with an instruction that is kept, and neither jumps nor names a register
abbrev pub KeptRuns : Linked → Type 0
KeptRuns v =
    (w : Linked) (s : Source) (place : ℕ → ℕ) (i : Placed) (op : Operation) (z t : State Cell) (o : Outcome Cell)
    → IsLaidIn v w s place
    → AreAtBody v w s place i op z t
    → body s i op ≡ Plain i.insn ∷ []
    → jumps_from op ≡ false
    → registers_asked (demands v op) ≡ 0
    → Steps tagged v z o
    → IsNoFault o
    → BodyRuns v w s place i op z t o
