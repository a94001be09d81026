-- Laws of how runs begin.
use Rattle.std.specs.Prelude.{◌≡◌, ℕ, List, None}
use Rattle.jc_base.specs.World.{Linked}
use Rattle.vm_store.specs.Cells.{tagged, words}
use Rattle.vm_store.specs.State.{erased}
use Rattle.vm_step.specs.Arguments.{Argument}
use Rattle.vm_step.specs.Start.{start_fault, entry_state}
use Rattle.vm_run.specs.Sized.{HasEntrySizes}

-- the words of the state in which a run of tagged cells begins are the state in which one of words begins
abbrev pub StartStatesErase : Type 0
StartStatesErase = (w : Linked) (entry : ℕ) (args : List Argument) → erased (entry_state tagged w entry args)
    ≡ entry_state words w entry args

-- where a run begins, its state has the sizes of its world
abbrev pub StartsAreSized : Linked → Type 0
StartsAreSized w = (entry : ℕ) (args : List Argument)
    → start_fault w entry args ≡ None
    → HasEntrySizes w entry (entry_state tagged w entry args)
