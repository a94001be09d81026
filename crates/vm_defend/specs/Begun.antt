-- What it means that a run was begun, or was not.
use Rattle.std.specs.Prelude.{◌≡◌, ℕ, List, Some, None}
use Rattle.jc_base.specs.World.{Linked}
use Rattle.vm_store.specs.Cells.{tagged}
use Rattle.vm_step.specs.Arguments.{Argument}
use Rattle.vm_step.specs.Start.{start_fault, entry_state}
use Rattle.vm_check.specs.Shaped.{IsShaped}
use Rattle.vm_defend.specs.declared.starting.StartEnd.{StartEnd}
use Rattle.vm_defend.specs.declared.starting.StartEnd.TheVariants.{Fault, Memory}
use Rattle.vm_defend.specs.Held.{Held}

-- nothing keeps the entry from beginning a run, which stands before its first step
pub record IsBegun (w : Linked) (entry : ℕ) (args : List Argument) (run : Held) : Type 0 where
  pub begins : start_fault w entry args ≡ None
  pub state : run.state ≡ entry_state tagged w entry args
  pub goes_on : run.ending ≡ None

-- the first fault, or no memory for an entry and arguments that have none
abbrev pub RefusesRun : Linked → ℕ → List Argument → StartEnd → Type 0
RefusesRun w entry args (Fault fault) = start_fault w entry args ≡ Some fault
RefusesRun w entry args Memory = start_fault w entry args ≡ None

-- the state in which a run begins has the shape of its world
abbrev pub StartsAreShaped : Linked → Type 0
StartsAreShaped w =
    (entry : ℕ) (args : List Argument) → start_fault w entry args ≡ None → IsShaped w (entry_state tagged w entry args)
