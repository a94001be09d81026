-- What it means that a run was begun.
use Rattle.std.specs.Prelude.{◌≡◌, ℕ, List, None}
use Rattle.jc_base.specs.World.{Linked}
use Rattle.vm_store.specs.Cells.{tagged}
use Rattle.vm_step.specs.Arguments.{Argument}
use Rattle.vm_step.specs.Raising.{running}
use Rattle.vm_step.specs.Start.{start_fault, entry_state}
use Rattle.vm_offend.specs.declared.machine.Machine.{Machine}
use Rattle.vm_offend.specs.Held.{AreWordsOf}

-- nothing keeps the entry from beginning a run, and the memory holds the words of the state before its first step
pub record IsBegun (w : Linked) (entry : ℕ) (args : List Argument) (m : Machine) (ram heap statics : List ℕ) : Type 0 where
  pub begins : start_fault w entry args ≡ None
  pub words : AreWordsOf w m ram heap statics (running (entry_state tagged w entry args))
