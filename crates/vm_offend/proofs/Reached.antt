-- A state that a run reaches in typed code: it is typed, has the shape of its world, and a method runs in it.
use Rattle.std.proofs.Common.{◌≡◌, ◌+◌, ℕ, suc, sym, subst, arith}
use Rattle.jc_base.specs.declared.ty.Ty.TheVariants.{Bottom}
use Rattle.jc_base.specs.World.{Linked}
use Rattle.vm_store.specs.declared.cell.Cell.{Cell}
use Rattle.vm_store.specs.Cells.{tagged}
use Rattle.vm_store.specs.State.{State, IsRunning, erased}
use Rattle.vm_step.specs.Raising.{Outcome, running, ended}
use Rattle.vm_step.specs.Step.{Steps}
use Rattle.vm_step.specs.Run.{Runs, stands, stops, steps, Continues}
use Rattle.vm_step.specs.Laws.{StepsAreOne, RunsExist, RunsGoOn}
use Rattle.law_sound.specs.Soundness.{HasTypings, IsTypedOutcome, RunsAreSafe, StartsAreTyped}
use Rattle.vm_check.specs.Shaped.{IsShaped}
use Rattle.vm_check.specs.Machine.{StepsStay}
use Rattle.vm_defend.specs.Begun.{StartsAreShaped}
use Rattle.vm_offend.specs.Typed.{AreTypedWords}
use Rattle.vm_offend.specs.Held.{IsOutcomeOfRun}

module _ (w : Linked) where
  pub reached-on : RunsGoOn tagged w → (o z : Outcome Cell) (n : ℕ) → IsOutcomeOfRun w o → Continues tagged w n o z → IsOutcomeOfRun w z
  reached-on on o z n r more = record {
    entry = r.entry;
    args = r.args;
    start = r.start;
    starts = r.starts;
    steps = r.steps + n;
    runs = on r.steps n (running r.start) o z r.runs more;
  }

  pub reached-safe : (has : HasTypings w Bottom) → StartsAreTyped w → RunsAreSafe w → (o : Outcome Cell) → IsOutcomeOfRun w o
      → IsTypedOutcome w has.typings o
  reached-safe has starts safe o r = safe has.typings r.steps r.start o has.are (starts has.typings r.entry r.args r.start has.are r.starts) r.runs

  -- ---- shape

  runs-shaped : StepsStay tagged (IsShaped w) w → {n : ℕ} {s z : State Cell} → Runs tagged w n s (running z) → IsShaped w s → IsShaped w z
  runs-shaped stay stands shaped = shaped
  runs-shaped stay (steps {s = s} {z = y} first more) shaped = runs-shaped stay more (stay s y shaped first)

  reached-shaped : StartsAreShaped w → StepsStay tagged (IsShaped w) w → (t : State Cell) → IsOutcomeOfRun w (running t) → IsShaped w t
  reached-shaped starts stay t r =
      runs-shaped stay r.runs (subst (IsShaped w) (sym r.starts.state) (starts r.entry r.args r.starts.begins))

  -- ---- a method runs

  step-runs : (s : State Cell) {o : Outcome Cell} → Steps tagged w s o → IsRunning s
  step-runs s x = grind (arith)

  first-runs : {n : ℕ} {s : State Cell} {o : Outcome Cell} → Runs tagged w (suc n) s o → IsRunning s
  first-runs x = grind (arith, step-runs)

  same-running : (z y : State Cell) → running z ≡ running y → z ≡ y
  same-running z y e = cc

  -- a run of one step more takes it from the state that the run reaches
  last-runs : StepsAreOne tagged w → {n : ℕ} {s t : State Cell} {o : Outcome Cell} → Runs tagged w n s (running t) → Runs tagged w (suc n) s o
      → IsRunning t
  last-runs one stands more = first-runs more
  last-runs one (steps {s = s} {z = y} first rest) (stops {z = z} {ending = e} last) = let both = one s (running y) (ended e z) first last in absurd (cc)
  last-runs one (steps {n = n} {s = s} {z = y} {o = r} first rest) (steps {n = m} {z = z} {o = o} also more) =
      let same : z ≡ y = same-running z y (one s (running z) (running y) also first) in
      last-runs one rest (subst (λ (x : State Cell). Runs tagged w m x o) same more)

  pub reached-runs : StepsAreOne tagged w → RunsExist w → (t : State Cell) → IsOutcomeOfRun w (running t) → IsRunning t
  reached-runs one exist t r =
      let begins : IsRunning r.start = subst (λ (x : State Cell). IsRunning x) (sym r.starts.state) (omega arith) in
      last-runs one r.runs (exist (suc r.steps) r.start begins).1

  -- ---- what the words keep

  pub reached-keeps : HasTypings w Bottom → StartsAreTyped w → RunsAreSafe w → StartsAreShaped w → StepsStay tagged (IsShaped w) w
      → (t : State Cell) (s : State ℕ) → s ≡ erased t → IsOutcomeOfRun w (running t) → AreTypedWords w s
  reached-keeps has starts safe shapes stay t s e r = record {
    typings = has.typings;
    unset = has.unset_is;
    methods = has.are;
    state = t;
    words = e;
    typed = reached-safe has starts safe (running t) r;
    shaped = reached-shaped shapes stay t r;
  }
