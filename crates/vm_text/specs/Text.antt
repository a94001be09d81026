-- The text of what a run leaves.
use Rattle.std.specs.Prelude.{ℕ, ◌+◌, ◌*◌, List, [], ◌∷◌, length, Option, Some, None}
use Rattle.std.specs.List.{concat}
use Rattle.jc_base.specs.World.{Linked}
use Rattle.vm_store.specs.Cells.{Cells}
use Rattle.vm_step.specs.declared.ending.Value.TheVariants.{Ref}
use Rattle.vm_step.specs.declared.ending.Plain.TheVariants.{Returned, Spent}
use Rattle.vm_step.specs.declared.ending.Ending.{Ending}
use Rattle.vm_step.specs.declared.ending.Ending.TheVariants.{Plain}
use Rattle.vm_step.specs.Raising.{Outcome, running, ended}
use Rattle.cap_text.specs.Ending.{ending_line, static_lines, array_line}
use Rattle.vm_text.specs.Left.{NumberArray, Readout, left_by}

-- the line of an array of numbers, where there is one
abbrev pub array_text : ℕ → Option NumberArray → List ℕ
array_text handle None = []
array_text handle (Some a) = array_line handle a.ty a.elements

-- the array that a run returned, where it returned one of numbers
abbrev pub returned_array : Readout → Ending → List ℕ
returned_array left (Plain (Returned (Ref handle))) = array_text handle (left.array handle)
returned_array left ending = []

-- how a run ended, the array that it returned, and the static fields
abbrev pub left_text : Readout → Ending → List ℕ
left_text left ending = concat (ending_line ending ∷ returned_array left ending ∷ static_lines 0 left.statics ∷ [])

-- the text of what came of a run; where no ending was reached within its steps, it is spent
abbrev pub outcome_text : {A : Type 0} → Cells A → Linked → Outcome A → List ℕ
outcome_text k w (running s) = left_text (left_by k w s) (Plain Spent)
outcome_text k w (ended ending s) = left_text (left_by k w s) ending

-- no text of a run of a world is longer: 34 bytes tell an ending, 26 begin and end the line of an array, which has at most 65,535
-- elements of 12 bytes, and a static field takes 31
abbrev pub most_text : Linked → ℕ
most_text w = 786480 + 31 * length w.statics
