-- What both machines print.
use Rattle.std.specs.Prelude.{◌≡◌}
use Rattle.jc_base.specs.World.{Linked}
use Rattle.vm_store.specs.declared.cell.Cell.{Cell}
use Rattle.vm_store.specs.Cells.{tagged, words}
use Rattle.vm_store.specs.State.{State, erased}
use Rattle.vm_step.specs.declared.ending.Ending.{Ending}
use Rattle.vm_text.specs.Left.{left_by}
use Rattle.vm_text.specs.Text.{left_text}

-- the words of a state give the text that the state gives
abbrev pub TextsAreAlike : Linked → Type 0
TextsAreAlike w = (s : State Cell) (ending : Ending) → left_text (left_by words w (erased s)) ending ≡ left_text (left_by tagged w s) ending
