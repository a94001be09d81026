-- In typed code a machine of bare words does what one of tagged cells does.
use Rattle.std.proofs.Common.{◌≡◌, ℕ, zero, suc, length, refl, ap, subst, arith}
use Rattle.std.proofs.lemmas.List.{length-map}
use Rattle.jc_base.specs.World.{Linked, IsWorld}
use Rattle.jc_ops.specs.Sound.{OperationsAreDecided}
use Rattle.vm_store.specs.declared.cell.Cell.{Cell}
use Rattle.vm_store.specs.Cells.{tagged, words}
use Rattle.vm_store.specs.State.{State, IsRunning, erased}
use Rattle.vm_step.specs.Raising.{Outcome, running, ended}
use Rattle.vm_step.specs.Step.{Steps}
use Rattle.vm_step.specs.Run.{Runs, stands, stops, steps}
use Rattle.vm_step.proofs.Lasting.{runs-exist}
use Rattle.vm_step.proofs.Running.{steps-exist, steps-one, continues-one}
use Rattle.law_sound.specs.Frames.{Typings}
use Rattle.law_sound.specs.Soundness.{IsTypedOutcome, AreTypings, HasTypings}
use Rattle.law_sound.specs.State.{IsTypedState}
use Rattle.law_sound.proofs.TypingsByNumber.{methods-have-typings}
use Rattle.law_sound.proofs.Sound.{steps-are-safe, runs-are-safe}
use Rattle.law_sound.proofs.Starting.{starts-are-typed}
use Rattle.law_erasure.specs.Erasure.{erased_outcome, IsNoFault, WordsFollow, TypedStepsFollow, TypedRunsFollow}
use Rattle.law_erasure.proofs.Steps.{steps-erase, runs-erase}

pub safe-free : (w : Linked) (typings : Typings) (o : Outcome Cell) → IsTypedOutcome w typings o → IsNoFault o
safe-free w typings x h = grind (arith)

-- a state of words that takes a step is that of a state in which a method runs
words-run : (w : Linked) (z : State ℕ) {x : Outcome ℕ} → Steps words w z x → IsRunning z
words-run w z x = grind (arith)

cells-run : (w : Linked) (s : State Cell) {x : Outcome ℕ} → Steps words w (erased s) x → IsRunning s
cells-run w s step = grind (arith, length, words-run, length-map)

pub typed-steps-follow : (w : Linked) → IsWorld w → OperationsAreDecided w → TypedStepsFollow w
typed-steps-follow w world decided typings s x are typed step =
    let there = steps-exist w s (cells-run w s step) in
    let free = safe-free w typings there.0 (steps-are-safe w world typings s there.0 are typed there.1) in
    (there.0, there.1, steps-one words w decided (erased s) x (erased_outcome there.0) step (steps-erase w s there.0 free there.1))

module _ (w : Linked) (world : IsWorld w) (decided : OperationsAreDecided w) (typings : Typings) (are : AreTypings w typings) where
  follows : (n : ℕ) (s : State Cell) (x : Outcome ℕ) → IsTypedState w typings s → IsRunning s → Runs words w n (erased s) x → (o : Outcome Cell)
      × Runs tagged w n s o × (x ≡ erased_outcome o)
  follows n s x typed goes runs =
      let there = runs-exist w (steps-exist w) n s goes in
      let free = safe-free w typings there.0 (runs-are-safe w world typings n s there.0 are typed there.1) in
      let words_are = runs-erase w n s there.0 free there.1 in
      (there.0, there.1, continues-one words w (steps-one words w decided) n (running (erased s)) x (erased_outcome there.0) runs words_are)

  runs-by : (n : ℕ) (s : State Cell) (z : State ℕ) (x : Outcome ℕ) → z ≡ erased s → IsTypedState w typings s → Runs words w n z x
      → (o : Outcome Cell) × Runs tagged w n s o × (x ≡ erased_outcome o)
  runs-by zero s z x e typed stands = (running s, stands, ap running e)
  runs-by (suc n) s z x e typed (stops {z = y} {ending = f} step) =
      let first : Steps words w (erased s) (ended f y) = subst (λ (v : State ℕ). Steps words w v (ended f y)) e step in
      follows (suc n) s x typed (cells-run w s first) (stops first)
  runs-by (suc n) s z x e typed (steps {z = y} step more) =
      let first : Steps words w (erased s) (running y) = subst (λ (v : State ℕ). Steps words w v (running y)) e step in
      follows (suc n) s x typed (cells-run w s first) (steps first more)

pub typed-runs-follow : (w : Linked) → IsWorld w → OperationsAreDecided w → TypedRunsFollow w
typed-runs-follow w world decided typings n s x are typed runs = runs-by w world decided typings are n s (erased s) x refl typed runs

pub words-follow : (w : Linked) → IsWorld w → OperationsAreDecided w → WordsFollow w
words-follow w world decided unset typed entry args s n x starts runs =
    let has : HasTypings w unset = methods-have-typings w unset typed in
    typed-runs-follow w world decided has.typings n s x has.are (starts-are-typed w world has.typings entry args s has.are starts) runs
