-- A run in a world whose methods with code have dataflow typings.
use Rattle.std.proofs.Common.{arith}
use Rattle.std.proofs.Common.{◌≡◌, ℕ, List, Option, Some, None, refl, sym, subst}
use Rattle.std.specs.Prelude.{unwrap_or}
use Rattle.jc_base.specs.World.{Linked}
use Rattle.vm_store.specs.declared.cell.Cell.{Cell}
use Rattle.vm_store.specs.Cells.{tagged}
use Rattle.vm_store.specs.State.{State}
use Rattle.vm_step.specs.declared.ending.Ending.{Ending}
use Rattle.vm_step.specs.declared.ending.Ending.TheVariants.{Plain}
use Rattle.vm_step.specs.declared.ending.Plain.TheVariants.{Spent}
use Rattle.vm_step.specs.Arguments.{Argument}
use Rattle.vm_step.specs.Run.{Continues}
use Rattle.vm_run.specs.Turn.{with_ending}
use Rattle.law_sound.specs.Frames.{Typings}
use Rattle.law_sound.specs.Soundness.{AreTypings, IsTypedOutcome, RunsAreSafe, StartsAreTyped}
use Rattle.vm_defend.specs.Held.{Held, reached, answer}
use Rattle.vm_defend.specs.Begun.{IsBegun}
use Rattle.vm_defend.specs.Safe.{IsPlainEnding, BeginsSafely, GoesSafely}

module _ (w : Linked) where
  on : RunsAreSafe w → (typings : Typings) → AreTypings w typings → (n : ℕ) (e f : Option Ending) (s z : State Cell)
      → Continues tagged w n (with_ending e s) (with_ending f z) → IsTypedOutcome w typings (with_ending e s) → IsTypedOutcome w typings (with_ending f z)
  on law typings typed n x f s z runs safe = grind (arith)

  answered : (typings : Typings) (e : Option Ending) (s : State Cell) → IsTypedOutcome w typings (with_ending e s) → IsPlainEnding (answer e)
  answered typings x s safe = grind (arith)

  pub goes-safely : RunsAreSafe w → (n : ℕ) (before after : Held) (a : Ending) → a ≡ answer after.ending
      → Continues tagged w n (reached before) (reached after) → GoesSafely w before after a
  goes-safely law n before after a is runs typings typed safe = grind (arith, on, answered)

  pub begins-safely : StartsAreTyped w → (entry : ℕ) (args : List Argument) (run : Held) → IsBegun w entry args run → BeginsSafely w run
  begins-safely law entry args run begun typings typed =
      subst (λ (e : Option Ending). IsTypedOutcome w typings (with_ending e run.state)) (sym begun.goes_on)
      (law typings entry args run.state typed (record { begins = begun.begins; state = begun.state }))

pub spent_or : (ending : Option Ending) → unwrap_or ending (Plain Spent) ≡ answer ending
spent_or None = refl
spent_or (Some ending) = refl
