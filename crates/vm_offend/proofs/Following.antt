-- What a run of words leaves are the words of what the run of tagged cells comes to.
use Rattle.std.proofs.Common.{arith}
use Rattle.std.proofs.Common.{◌≡◌, ℕ, List, Option, Some, None}
use Rattle.std.specs.Prelude.{IfSome, option_map, unwrap_or}
use Rattle.jc_base.specs.World.{Linked}
use Rattle.vm_store.specs.declared.cell.Cell.{Cell}
use Rattle.vm_store.specs.State.{State, erased}
use Rattle.vm_step.specs.declared.ending.Ending.{Ending}
use Rattle.vm_step.specs.declared.ending.Ending.TheVariants as endings
use Rattle.vm_step.specs.declared.ending.Plain.{Plain}
use Rattle.vm_step.specs.declared.ending.Plain.TheVariants.{Spent}
use Rattle.vm_step.specs.Raising.{Outcome, running}
use Rattle.vm_run.specs.Turn.{with_ending}
use Rattle.law_sound.specs.Frames.{Typings}
use Rattle.law_sound.specs.Soundness.{IsTypedOutcome}
use Rattle.law_erasure.specs.Erasure.{erased_outcome}
use Rattle.vm_defend.specs.Held.{answer}
use Rattle.vm_defend.specs.Safe.{IsPlainEnding}
use Rattle.vm_offend.specs.declared.machine.Machine.{Machine}
use Rattle.vm_offend.specs.Held.{ending_of, AreWordsOf, Follows}

-- a run that has not ended
pub going-on : (e : Option Ending) (s : State ℕ) (o : Outcome Cell) → e ≡ None → with_ending e s ≡ erased_outcome o → (t : State Cell)
    × (o ≡ running t) × (s ≡ erased t)
going-on e s x none is = grind (arith)

-- its ending is no fault
pub plain-ending : (w : Linked) (typings : Typings) (e : Option Ending) (s : State ℕ) (o : Outcome Cell) → with_ending e s ≡ erased_outcome o
    → IsTypedOutcome w typings o → IfSome e IsPlainEnding
plain-ending w typings x s o is safe = grind (arith)

pub ending-is : (e : Option Ending) (s : State ℕ) (o : Outcome Cell) → with_ending e s ≡ erased_outcome o → ending_of o ≡ e
ending-is x s x2 is = grind (arith)

pub answers : (e : Option Plain) → answer (option_map endings.Plain e) ≡ endings.Plain (unwrap_or e Spent)
answers x = grind (arith)

-- an ending stays
pub ended-follows : (w : Linked) (m : Machine) (ram heap statics : List ℕ) (budget : ℕ) (plain : Plain) → m.ending ≡ Some plain
    → (o : Outcome Cell) → AreWordsOf w m ram heap statics o
    → Follows w budget o m ram heap statics plain
ended-follows w m ram heap statics budget plain is x held = grind (arith, answers)
