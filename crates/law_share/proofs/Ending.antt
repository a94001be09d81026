-- Runs begin in step, and so end in step.
use Rattle.std.proofs.Common.{ℕ, List, [], ◌∷◌, refl, sym, ap, subst, arith}
use Rattle.jc_base.specs.World.{Linked}
use Rattle.vm_store.specs.declared.cell.Cell.{Cell}
use Rattle.vm_store.specs.Cells.{tagged}
use Rattle.vm_store.specs.State.{State, entered}
use Rattle.vm_step.specs.Arguments.{Argument}
use Rattle.vm_step.specs.Raising.{running}
use Rattle.vm_step.specs.Run.{stands}
use Rattle.vm_step.specs.Start.{Starts, entry_state}
use Rattle.law_sound.specs.Frames.{Typings}
use Rattle.law_sound.specs.State.{IsTypedState}
use Rattle.law_alike.specs.Ends.{EndsAlikeBy}
use Rattle.law_alike.specs.Simulation.{AreBoth, ComesBeside, StepsMatch, StartsMatch}
use Rattle.law_alike.proofs.Entering.{handed_in, made_in, made-same, handed-same}
use Rattle.law_alike.proofs.Simulation.{simulation-ends-alike, one-step}
use Rattle.law_share.specs.Beside.{Renaming, AreRenamed, no_frames, AreBeside}
use Rattle.law_share.proofs.Knowing.{AreLaws}
use Rattle.law_share.proofs.Settling.{Settles, enters}
use Rattle.law_share.proofs.Stepping.{step-settles}

module _ (v w : Linked) (typings : Typings) (r : Renaming) (laws : AreLaws v) (pair : AreRenamed v w typings r) where
  steps-match : StepsMatch v w (AreBeside v w typings r) 1 0
  steps-match z t o b step =
      let s = step-settles v w typings r laws pair z t b o step (laws.safe typings z o pair.typed b.typed step) in
      record { count = 1; more = omega arith; fewer = omega arith; outcome = s.0; runs = one-step w t s.0 s.1; both = s.2 }

  module _ (entry : ℕ) (args : List Argument) (s : State Cell) (starts : Starts tagged v entry args s) where
    abbrev made : Linked → State Cell
    made = made_in v w pair.same entry args

    abbrev handed : List Cell
    handed = handed_in v w pair.same entry args v

    typed : IsTypedState v typings (entry_state tagged v entry args)
    typed = laws.starts typings entry args (entry_state tagged v entry args) pair.typed (record { begins = starts.begins; state = refl })

    settles : Settles v w typings r (running (entry_state tagged v entry args)) (running (entry_state tagged w entry args))
    settles =
        subst
        (λ cs. Settles v w typings r (running (entry_state tagged v entry args))
        (running (record (made w) { frames = entered tagged w.methods entry cs ∷ [] })))
        (sym (handed-same v w pair.same entry args))
        (enters v w typings r laws pair entry handed [] [] (made v).heap (made w).heap (made v).statics (made w).statics
        (ap (λ (x : State Cell). x.heap) (made-same v w pair.same entry args)) (ap (λ (x : State Cell). x.statics) (made-same v w pair.same entry args))
        no_frames typed (laws.begun entry args starts.begins))

    begins : ComesBeside w (AreBeside v w typings r) 0 0 (entry_state tagged w entry args) (running s)
    begins = record {
      count = 0;
      more = omega arith;
      fewer = omega arith;
      outcome = running (entry_state tagged w entry args);
      runs = stands;
      both = subst (λ x. AreBoth (AreBeside v w typings r) (running x) (running (entry_state tagged w entry args))) (sym starts.state) settles;
    }

  starts-match : StartsMatch v w (AreBeside v w typings r) 0
  starts-match entry args s starts = begins entry args s starts

pub renamed-end-alike : (v : Linked) → AreLaws v → (w : Linked) (typings : Typings) (r : Renaming) → AreRenamed v w typings r → EndsAlikeBy 1 v w
renamed-end-alike v laws w typings r pair =
    simulation-ends-alike v w (AreBeside v w typings r) 1 0 (omega arith) (steps-match v w typings r laws pair) (starts-match v w typings r laws pair)
    (λ entry args. sym (laws.refuse w entry args pair.same))
