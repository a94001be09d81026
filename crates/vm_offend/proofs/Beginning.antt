-- A run before its first step.
use Rattle.std.proofs.Common.{arith}
use Rattle.std.proofs.Common.{◌≡◌, ℕ, List, None, length, refl}
use Rattle.std.proofs.lemmas.List.{length-map}
use Rattle.jc_base.specs.World.{Linked}
use Rattle.vm_store.specs.Cells.{tagged, words}
use Rattle.vm_step.specs.Arguments.{Argument}
use Rattle.vm_step.specs.Raising.{running}
use Rattle.vm_step.specs.Run.{stands}
use Rattle.vm_step.specs.Start.{start_fault, entry_state}
use Rattle.vm_run.specs.Starts.{StartStatesErase, StartsAreSized}
use Rattle.vm_offend.specs.declared.words.Counts.{Counts}
use Rattle.vm_offend.specs.Words.{AreLaid, words_state}
use Rattle.vm_offend.specs.declared.machine.Machine.{Machine}
use Rattle.vm_offend.specs.Begun.{IsBegun}
use Rattle.vm_offend.specs.Held.{IsRunOf}

module _ (w : Linked) (entry : ℕ) (args : List Argument) (begins : start_fault w entry args ≡ None) where
  -- the words of the entry's state, in memory of a world that is this one
  pub begun-words :
      StartStatesErase → StartsAreSized w
      → (m : Machine) (v : Linked) (counts : Counts) (ram heap statics : List ℕ) → v ≡ w → m.counts ≡ counts → m.ending ≡ None
      → AreLaid v ram heap counts → words_state v.methods ram heap statics counts ≡ entry_state words w entry args
      → IsBegun w entry args m ram heap statics
  begun-words erase sizes m v counts ram heap statics same counted none laid state = grind (arith, length, length-map)

  pub begun-run : (m : Machine) (ram heap statics : List ℕ) → IsBegun w entry args m ram heap statics → IsRunOf w m ram heap statics
  begun-run m ram heap statics begun = record {
    outcome = running (entry_state tagged w entry args);
    reached = record {
      entry = entry;
      args = args;
      start = entry_state tagged w entry args;
      starts = record { begins = begins; state = refl };
      steps = 0;
      runs = stands;
    };
    words = begun.words;
  }
