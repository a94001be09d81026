-- A method that waits is given what the one that it called returns.
use Rattle.std.proofs.Common.{◌≡◌, ◌≤◌, false, List, ◌∷◌, length, arith}
use Rattle.std.specs.Prelude.{nat_le}
use Rattle.std.proofs.lemmas.Bool.{le-ltb, ltb-false}
use Rattle.jc_base.specs.World.{Linked}
use Rattle.vm_store.specs.declared.cell.Cell.{Cell}
use Rattle.vm_store.specs.Cells.{tagged}
use Rattle.vm_store.specs.State.{Frame, Object, State}
use Rattle.vm_store.specs.Value.{with_value}
use Rattle.vm_step.specs.declared.ending.Value.{Value}
use Rattle.vm_step.specs.Methods.{code_at, max_stack_of}
use Rattle.vm_step.specs.Raising.{running}
use Rattle.vm_step.specs.Settled.{given_to}
use Rattle.law_sound.specs.Frames.{Typings}
use Rattle.law_sound.specs.Soundness.{IsTypedOutcome}
use Rattle.law_sound.specs.State.{IsTypedState}
use Rattle.law_erasure.proofs.Together.{safe-free}
use Rattle.law_alike.proofs.Settling.{unless-none, both-passed, after_call, given_frame, given-goes}

module _ (value : Value) (cells : List Cell) (f : Frame Cell) (fs : List (Frame Cell)) (heap : List (Object Cell)) (statics : List Cell) where
  abbrev waiting : State Cell
  waiting = record { frames = f ∷ fs; heap = heap; statics = statics }

  abbrev given : Linked → State Cell
  given v = record { frames = given_frame v cells f ∷ fs; heap = heap; statics = statics }

  pub record IsGiven (v : Linked) (typings : Typings) : Type 0 where
    pub goes : given_to tagged v value cells waiting ≡ running (given v)
    pub fits : length (with_value cells f.stack) ≤ max_stack_of v f.method
    pub inside : nat_le (length (code_at v f.method)) (after_call v f) ≡ false
    pub typed : IsTypedState v typings (given v)

  pub is-given : (v : Linked) (typings : Typings) → IsTypedOutcome v typings (given_to tagged v value cells waiting) → IsGiven v typings
  is-given v typings safe = grind (arith, given-goes, unless-none, safe-free, both-passed, ltb-false)

  -- where it has room, and does not go on past its code
  pub goes-given :
      (v : Linked) → length (with_value cells f.stack) ≤ max_stack_of v f.method → nat_le (length (code_at v f.method)) (after_call v f) ≡ false
      → given_to tagged v value cells waiting ≡ running (given v)
  goes-given v fits inside = grind (arith, le-ltb, given-goes)
