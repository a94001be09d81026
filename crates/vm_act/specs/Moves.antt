-- How many cells a move asks for, and how many it adds and drops.
use Rattle.std.specs.Prelude.{ℕ, ◌+◌, max}
use Rattle.jc_ops.specs.declared.operation.Move.{Move}
use Rattle.jc_ops.specs.declared.operation.Move.TheVariants as moves

abbrev pub move_asks : Move → ℕ
move_asks moves.Pop = 1
move_asks moves.PopTwo = 2
move_asks moves.Duplicate = 1
move_asks moves.DuplicateTwo = 2
move_asks (moves.CopyUnder copied under) = max copied under
move_asks (moves.Exchange top under) = top + under

abbrev pub move_adds : Move → ℕ
move_adds moves.Duplicate = 1
move_adds moves.DuplicateTwo = 2
move_adds (moves.CopyUnder copied under) = copied
move_adds _ = 0

abbrev pub move_drops : Move → ℕ
move_drops moves.Pop = 1
move_drops moves.PopTwo = 2
move_drops _ = 0
