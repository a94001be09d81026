-- What a group of laid code comes to beside a step of its source (Leroy 2002, section 4.1).
use Rattle.std.specs.Prelude.{◌≡◌, ◌≤◌, ℕ, List, ◌∷◌, map, drop}
use Rattle.jc_base.specs.World.{Linked}
use Rattle.jc_decode.specs.declared.insn.Placed.{Placed}
use Rattle.jc_ops.specs.declared.operation.Operation.{Operation}
use Rattle.vm_store.specs.declared.cell.Cell.{Cell}
use Rattle.vm_store.specs.Cells.{tagged}
use Rattle.vm_store.specs.State.{State, arguments, other_frames, top, with_call, without_top}
use Rattle.vm_step.specs.declared.ending.Value.{Value}
use Rattle.vm_step.specs.declared.ending.Plain.{Plain}
use Rattle.vm_step.specs.declared.ending.Ending.TheVariants as endings
use Rattle.vm_step.specs.declared.ending.Exception.{Exception}
use Rattle.vm_step.specs.Act.{calls}
use Rattle.vm_step.specs.Performed.{act}
use Rattle.vm_step.specs.Raising.{Outcome, running, ended, raised, thrown}
use Rattle.vm_step.specs.Run.{Runs}
use Rattle.vm_step.specs.Settled.{given_to}
use Rattle.law_alike.specs.Alike.{renamed_cell}
use Rattle.law_alike.specs.Running.{Executes}
use Rattle.xf_homes.specs.Source.{Source}
use Rattle.law_groups.specs.Beside.{AreEqualBut, IsAtGroup, IsUnderCall, StandsInGroup, MovesTop, SameUnder}

-- no fewer steps than the one number, and no more than the other, lead to an outcome such as this
pub record ComesWithin (w : Linked) (least most : ℕ) (t : State Cell) (P : Outcome Cell → Type 0) : Type 0 where
  pub count : ℕ
  pub more : least ≤ count
  pub fewer : count ≤ most
  pub outcome : Outcome Cell
  pub runs : Runs tagged w count t outcome
  pub comes : P outcome

-- the states come to the group of one place: those of the frames under the top ones are as they were
pub record AreAtGroup (s : Source) (place : ℕ → ℕ) (z t y u : State Cell) : Type 0 where
  pub first : SameUnder z y
  pub second : SameUnder t u
  pub equal : AreEqualBut y u
  pub group : IsAtGroup s place (top y) (top u)

-- the source stays in the state y, and the target comes to the group of its place
pub record ComesToGroup (s : Source) (place : ℕ → ℕ) (y t : State Cell) (p : Outcome Cell) : Type 0 where
  pub state : State Cell
  pub is : p ≡ running state
  pub are : AreAtGroup s place y t y state

-- the arguments of a call on the stack on top are popped
abbrev pub without_arguments : ℕ → State Cell → State Cell
without_arguments count z =
    record z { frames = record (top z) { stack = drop count (top z).stack } ∷ other_frames z.frames }

-- both call the same method with equal arguments, and wait at the call
pub record CallAlike (v w : Linked) (s : Source) (place : ℕ → ℕ) (z t : State Cell) (o p : Outcome Cell) : Type 0 where
  pub instruction : Placed
  pub op : Operation
  pub executes : Executes v z instruction op
  pub method : ℕ
  pub count : ℕ
  pub source : State Cell
  pub target : State Cell
  pub first : SameUnder z source
  pub second : SameUnder t target
  pub equal : AreEqualBut source target
  pub handed : arguments count (top target).stack ≡ arguments count (top source).stack
  pub waits : IsUnderCall s place (top (without_arguments count source)) (top (without_arguments count target))
  pub acts : act tagged v instruction.insn op z ≡ calls method count source
  pub enters : o ≡ running (with_call tagged v.methods source method count)
  pub too : p ≡ running (with_call tagged w.methods target method count)

-- before an exception or an object is thrown from the group of the place of z
pub record IsWithinGroup (s : Source) (place : ℕ → ℕ) (z t u : State Cell) : Type 0 where
  pub moves : MovesTop t u
  pub within : StandsInGroup s place (top z) (top u)

-- what a step from z in the world v and steps from t in the world w come to, where another method runs next, or none
pub data GroupComes (v w : Linked) (s : Source) (place : ℕ → ℕ) (z t : State Cell) : Outcome Cell → Outcome Cell → Type 0 where
  group_calls : {o p : Outcome Cell} → CallAlike v w s place z t o p → GroupComes v w s place z t o p
  -- both return the same value, in the same cells, which hold no uninitialised object
  group_gives :
      (value : Value) (cells : List Cell) {o p : Outcome Cell}
      → ((e : ℕ → ℕ) → map (renamed_cell e) cells ≡ cells)
      → o ≡ given_to tagged v value cells (without_top z)
      → p ≡ given_to tagged w value cells (without_top t)
      → GroupComes v w s place z t o p
  -- both throw an exception of the same role
  group_raises :
      (exception : Exception) (u : State Cell) {o p : Outcome Cell}
      → IsWithinGroup s place z t u
      → o ≡ raised tagged v exception z
      → p ≡ raised tagged w exception u
      → GroupComes v w s place z t o p
  -- both throw the same object
  group_throws :
      (handle : ℕ) (u : State Cell) {o p : Outcome Cell}
      → IsWithinGroup s place z t u
      → o ≡ thrown tagged v handle z
      → p ≡ thrown tagged w handle u
      → GroupComes v w s place z t o p
  -- both end in the same way, with equal objects and static fields
  group_ends :
      (ending : Plain) (y : State Cell)
      → GroupComes v w s place z t (ended (endings.Plain ending) y) (ended (endings.Plain ending) y)

-- at least one step of the target for one of the source: at most 1,000 where another method runs next, or none, and at most 2,000 to the
-- group of the next place of the same method
pub data GroupRuns (v w : Linked) (s : Source) (place : ℕ → ℕ) (z t : State Cell) (o : Outcome Cell) : Type 0 where
  group_leaves : ComesWithin w 1 1000 t (GroupComes v w s place z t o) → GroupRuns v w s place z t o
  group_stays :
      (y : State Cell)
      → o ≡ running y
      → ComesWithin w 1 2000 t (λ p. (u : State Cell) × (p ≡ running u) × AreAtGroup s place z t y u)
      → GroupRuns v w s place z t o
