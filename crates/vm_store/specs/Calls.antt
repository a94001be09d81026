-- A call of a method among the frames of tagged cells.
use Rattle.std.specs.Prelude.{ℕ, ◌+◌, ◌-◌, List, [], ◌++◌, length, drop, replicate, slice_index_or, slice_set}
use Rattle.vm_store.specs.declared.cell.Cell.{Cell}
use Rattle.vm_store.specs.declared.cell.Cell.TheVariants.{Empty}
use Rattle.vm_store.specs.State.{Frame, no_frame, arguments}

-- the frame that a method begins with, in so many registers
abbrev pub begun : ℕ → ℕ → List Cell → Frame Cell
begun method registers args =
    record { method = method; place = 0; registers = args ++ replicate (registers - length args) Empty; stack = [] }

-- the frame without the top cells of its stack
abbrev pub relieved : Frame Cell → ℕ → Frame Cell
relieved f count = record f { stack = drop count f.stack }

-- the frames once the one at a number called a method, whose frame is the next one
abbrev pub called : List (Frame Cell) → ℕ → ℕ → ℕ → ℕ → List (Frame Cell)
called frames caller method registers count =
    let f = slice_index_or frames caller no_frame in
    slice_set (slice_set frames caller (relieved f count)) (caller + 1) (begun method registers (arguments count f.stack))
