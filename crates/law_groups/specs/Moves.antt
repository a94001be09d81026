-- The moves between homes that the groups of a method make: those of its source's world v hold in every world w that can run.
use Rattle.jc_base.specs.World.{Linked}
use Rattle.law_rewritten_typing.specs.Edges.{CellsFillStack, NeededHaveHomes}
use Rattle.law_homes.specs.Edges.{CellsAreFew, CellsRun, CopiesAreFew, EdgesRun, KeptStacksStay, LeadersLoad, StacksSpill}
use Rattle.law_homes.specs.Moves.{IsExecutable}

-- the homes that are needed have registers, the moves come to what they are for, and are few
pub record MovesRun (v : Linked) : Type 0 where
  pub needs : NeededHaveHomes v
  pub fill : CellsFillStack v
  pub loading : (w : Linked) → IsExecutable w → LeadersLoad v w
  pub spills : (w : Linked) → IsExecutable w → StacksSpill v w
  pub stay : (w : Linked) → IsExecutable w → KeptStacksStay v w
  pub edges : (w : Linked) → IsExecutable w → EdgesRun v w
  pub cells_run : (w : Linked) → IsExecutable w → CellsRun v w
  pub few_copies : CopiesAreFew v
  pub few_cells : CellsAreFew v
