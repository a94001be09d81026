-- What is read of the words that a run of verified code leaves: its objects and its static fields.
use Rattle.std.specs.Prelude.{◌≡◌, ℕ, List, [], length}
use Rattle.jc_base.specs.World.{Linked}
use Rattle.vm_store.specs.declared.cell.Cell.{Cell}
use Rattle.vm_store.specs.State.{State}
use Rattle.vm_offend.specs.declared.words.Counts.{Counts}
use Rattle.vm_offend.specs.Words.{AreObjectsLaid, objects_state}
use Rattle.vm_offend.specs.Sized.{static_cells}
use Rattle.vm_offend.specs.Reads.{AreObjectsOf, AreStaticsOf}

-- the state that the words hold, without its frames
abbrev pub lent_state : List ℕ → List ℕ → Counts → State ℕ
lent_state heap statics counts = record { frames = []; heap = (objects_state heap counts).heap; statics = statics }

-- the world is the one that was accepted, and the words are those of the objects and of the static fields of some state
pub record IsLentRun (w accepted : Linked) (heap statics : List ℕ) (counts : Counts) : Type 0 where
  pub world : accepted ≡ w
  pub sized : length statics ≡ static_cells accepted
  pub laid : AreObjectsLaid heap counts
  pub state : State Cell
  pub objects : AreObjectsOf heap counts state
  pub fields : AreStaticsOf statics state
