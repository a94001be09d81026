-- What is read of the words of a run.
use Rattle.std.specs.Prelude.{◌≡◌, ℕ, ◌≤◌, List, length, map}
use Rattle.vm_store.specs.declared.cell.Cell.{Cell}
use Rattle.vm_store.specs.Cells.{word_of}
use Rattle.vm_store.specs.State.{State, map_object}
use Rattle.vm_offend.specs.declared.words.Counts.{Counts}
use Rattle.vm_offend.specs.Words.{objects_state}

-- the words of the objects are those of a state
abbrev pub AreObjectsOf : List ℕ → Counts → State Cell → Type 0
AreObjectsOf heap counts s = (objects_state heap counts).heap ≡ map (map_object word_of) s.heap

-- the words of the static fields are those of a state
abbrev pub AreStaticsOf : List ℕ → State Cell → Type 0
AreStaticsOf statics s = statics ≡ map word_of s.statics

-- the frames lie in the memory that is lent for them
pub record AreFramesLaid (ram : List ℕ) (counts : Counts) : Type 0 where
  pub ram_length : length ram ≡ 32832
  pub some_frames : counts.frames ≤ 64
