-- Runs that take one step more.
use Rattle.std.proofs.Common.{◌≡◌, ◌<◌, ◌+◌, ℕ, zero, suc, subst, arith}
use Rattle.jc_base.specs.World.{Linked}
use Rattle.vm_store.specs.Cells.{Cells}
use Rattle.vm_store.specs.State.{State}
use Rattle.vm_step.specs.declared.ending.Ending.{Ending}
use Rattle.vm_step.specs.Raising.{running, ended}
use Rattle.vm_step.specs.Step.{Steps}
use Rattle.vm_step.specs.Run.{Runs, stands, stops, steps}

module _ {A : Type 0} (k : Cells A) (w : Linked) where
  -- a step that goes on
  pub run-more : {n : ℕ} {s z : State A} (y : State A) → Runs k w n s (running z) → Steps k w z (running y) → Runs k w (n + 1) s (running y)
  run-more y stands step = steps step stands
  run-more y (steps {n = n} {s = s} first more) step =
      let next : suc (n + 1) ≡ suc n + 1 = omega arith in subst (λ (m : ℕ). Runs k w m s (running y)) next (steps first (run-more y more step))

  -- a step that ends the run, before the budget is spent
  pub run-ends : {n : ℕ} {s z : State A} → Runs k w n s (running z) → (budget : ℕ) (ending : Ending) (y : State A) → Steps k w z (ended ending y)
      → n < budget
      → Runs k w budget s (ended ending y)
  run-ends stands zero ending y step lt = absurd (omega arith)
  run-ends stands (suc budget) ending y step lt = stops step
  run-ends (steps {n = n} first more) zero ending y step lt = absurd (omega arith)
  run-ends (steps {n = n} first more) (suc budget) ending y step lt = steps first (run-ends more budget ending y step (omega arith))
