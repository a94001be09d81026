-- A step that goes on leaves a frame, so there is a run of each number of steps.
use Rattle.std.proofs.Common.{ℕ, zero, suc, Bool, List, [], ◌∷◌, length}
use Rattle.std.proofs.Common.{arith}
use Rattle.std.specs.Prelude.{Option, if◌then◌else◌}
use Rattle.jc_base.specs.declared.record.Handler.{Handler}
use Rattle.jc_base.specs.World.{Linked}
use Rattle.vm_store.specs.declared.cell.Cell.{Cell}
use Rattle.vm_store.specs.Cells.{Cells, tagged}
use Rattle.vm_store.specs.State.{Frame, State, IsRunning, top, with_place}
use Rattle.vm_step.specs.declared.ending.Fault.{Fault}
use Rattle.vm_step.specs.Act.{Act}
use Rattle.vm_step.specs.Raising.{Outcome, running, ended, handler_for, caught_or, unwound}
use Rattle.vm_step.specs.Settled.{unless_fault, fault_next, goes_to, settled}
use Rattle.vm_step.specs.Step.{Steps}
use Rattle.vm_step.specs.Run.{Runs, stands, stops, steps}
use Rattle.vm_step.specs.Laws.{StepsExist, RunsExist}

module _ {A : Type 0} where
  -- an outcome after which a method runs, or that ends
  abbrev pub Lasts : Outcome A → Type 0
  Lasts (running z) = IsRunning z
  Lasts (ended e z) = Unit {0}

  lasts-unless : (s : State A) (o : Option Fault) (x : Outcome A) → Lasts x → Lasts (unless_fault s o x)
  lasts-unless s x x2 h = grind (arith)

  lasts-if : (b : Bool) (x y : Outcome A) → Lasts x → Lasts y → Lasts (if b then x else y)
  lasts-if x x2 y h g = grind (arith)

  lasts-caught :
      (k : Cells A) (w : Linked) (n : ℕ) (s : State A) (f : Frame A) (below : List (Frame A)) (x : Outcome A) (o : Option Handler)
      → Lasts x
      → Lasts (caught_or k w n s f below x o)
  lasts-caught k w n s f below x x2 g = grind (arith, lasts-if)

  lasts-unwound : (k : Cells A) (w : Linked) (class n : ℕ) (s : State A) (fs : List (Frame A)) → Lasts (unwound k w class n s fs)
  lasts-unwound k w class n s [] = tt {0}
  lasts-unwound k w class n s (f ∷ fs) = lasts-caught k w n s f fs (unwound k w class n s fs) (handler_for w class f) (lasts-unwound k w class n s fs)

  lasts-goes : (k : Cells A) (w : Linked) (next : ℕ) (s z : State A) → Lasts (goes_to k w next s z)
  lasts-goes k w next s z = lasts-unless s (fault_next k w z (length (top z).stack) next) (running (with_place z next)) (omega arith)

  lasts-settled : (k : Cells A) (w : Linked) (next : ℕ) (s : State A) (a : Act A) → Lasts (settled k w next s a)
  lasts-settled k w next s x = grind (arith, lasts-goes, lasts-unless, length, lasts-if, lasts-unwound)

  pub lasts-step : (k : Cells A) (w : Linked) (s : State A) {o : Outcome A} → Steps k w s o → Lasts o
  lasts-step k w s x = grind (arith, lasts-unless, lasts-settled)

-- with tagged cells
abbrev HasRun : Linked → ℕ → State Cell → Type 0
HasRun w n s = (o : Outcome Cell) × Runs tagged w n s o

run-on : (w : Linked) (n : ℕ) (s : State Cell) (o : Outcome Cell) → Steps tagged w s o → ((z : State Cell) → IsRunning z → HasRun w n z)
    → HasRun w (suc n) s
run-on w n s (running z) step rest = let more = rest z (lasts-step tagged w s step) in (more.0, steps step more.1)
run-on w n s (ended e z) step rest = (ended e z, stops step)

pub runs-exist : (w : Linked) → StepsExist w → RunsExist w
runs-exist w exist zero s runs = (running s, stands)
runs-exist w exist (suc n) s runs = let step = exist s runs in run-on w n s step.0 step.1 (runs-exist w exist n)
