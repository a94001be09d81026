-- Runs begin alike, and end alike.
use Rattle.std.proofs.Common.{ℕ, ◌≤◌, List, [], ◌∷◌, refl, sym, ap, ◌∙◌}
use Rattle.std.proofs.Common.{subst, arith}
use Rattle.jc_base.specs.World.{Linked}
use Rattle.vm_store.specs.declared.cell.Cell.{Cell}
use Rattle.vm_store.specs.Cells.{tagged}
use Rattle.vm_store.specs.State.{State, entered}
use Rattle.vm_step.specs.Arguments.{Argument}
use Rattle.vm_step.specs.Raising.{Outcome, running, ended}
use Rattle.vm_step.specs.Start.{Starts, entry_state}
use Rattle.law_sound.specs.Frames.{Typings}
use Rattle.law_sound.specs.State.{IsTypedState}
use Rattle.law_alike.specs.Ends.{EndsAlike}
use Rattle.law_alike.specs.Simulation.{ComesBeside, StepsMatch}
use Rattle.law_alike.proofs.Simulation.{simulation-ends-alike}
use Rattle.law_alike.proofs.Entering.{handed_in, made_in, made-same, handed-same}
use Rattle.law_transform.specs.Counterparts.{AreCounterparts}
use Rattle.law_transform.specs.Beside.{AreBeside, no_frames}
use Rattle.law_transform.specs.LikeEndings.{StartsAreMet, StepsAreMet}
use Rattle.law_transform.proofs.Typed.{AreLaws}
use Rattle.law_transform.proofs.Settling.{extra, Settles, enters}
use Rattle.law_transform.proofs.Simulating.{step-comes}

module _ (v w : Linked) (typings : Typings) (laws : AreLaws v) (pair : AreCounterparts v w typings) where
  steps-match : StepsMatch v w (AreBeside v w typings) 1000 1000
  steps-match z t o b step = grind (arith, step-comes v w typings laws pair z t b o step)

  module _ (entry : ℕ) (args : List Argument) (s : State Cell) (starts : Starts tagged v entry args s) where
    abbrev made : Linked → State Cell
    made = made_in v w pair.same entry args

    abbrev handed : List Cell
    handed = handed_in v w pair.same entry args v

    abbrev first : State Cell
    first = entry_state tagged v entry args

    abbrev second : State Cell
    second = entry_state tagged w entry args

    starts-too : Starts tagged w entry args second
    starts-too = record { begins = sym (laws.refuse w entry args pair.same) ∙ starts.begins; state = refl }

    typed : IsTypedState v typings first
    typed = laws.starts typings entry args first pair.typed (record { begins = starts.begins; state = refl })

    settles : Settles v w typings (running first) (running second)
    settles =
        subst (λ cs. Settles v w typings (running first) (running (record (made w) { frames = entered tagged w.methods entry cs ∷ [] })))
        (sym (handed-same v w pair.same entry args))
        (enters v w typings laws pair entry handed [] [] (made v).heap (made w).heap (made v).statics (made w).statics
        (ap (λ (x : State Cell). x.heap) (made-same v w pair.same entry args)) (ap (λ (x : State Cell). x.statics) (made-same v w pair.same entry args))
        no_frames typed (laws.begun entry args starts.begins))

    begins : ComesBeside w (AreBeside v w typings) 0 1000 second (running s)
    begins = grind (arith, settles)

pub counterparts-end-alike : (v : Linked) → AreLaws v → (w : Linked) (typings : Typings) → AreCounterparts v w typings → EndsAlike v w
counterparts-end-alike v laws w typings pair =
    simulation-ends-alike v w (AreBeside v w typings) 1000 1000 (omega arith) (steps-match v w typings laws pair) (begins v w typings laws pair)
    (λ entry args. sym (laws.refuse w entry args pair.same))

pub steps-are-met : (v : Linked) → AreLaws v → StepsAreMet v
steps-are-met v laws w typings z t o pair b step =
    let c = step-comes v w typings laws pair z t b o step in
    let few = c.fewer in
    let bound : extra o ≤ 1000 = extra-few o in
    record { count = c.count; more = c.more; fewer = omega (arith, few, bound); outcome = c.outcome; runs = c.runs; comes = c.comes }
  where
    extra-few : (o : Outcome Cell) → extra o ≤ 1000
    extra-few (running s) = omega arith
    extra-few (ended ending s) = omega arith

pub starts-are-met : (v : Linked) → AreLaws v → StartsAreMet v
starts-are-met v laws w typings entry args z pair starts =
    let c = begins v w typings laws pair entry args z starts in
    record {
      start = entry_state tagged w entry args;
      starts = starts-too v w typings laws pair entry args z starts;
      comes = record { count = c.count; more = c.more; fewer = c.fewer; outcome = c.outcome; runs = c.runs; comes = c.both };
    }
