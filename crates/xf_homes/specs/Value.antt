-- The values that a list of cells holds: an int takes two cells, any other value one (JCVM 2.2, section 3.1).
use Rattle.std.specs.Prelude.{ℕ, ◌+◌, List, Option, Some, None, slice_get}
use Rattle.jc_base.specs.declared.ty.Ty.{Ty}
use Rattle.jc_base.specs.declared.ty.Ty.TheVariants.{IntHigh, IntLow, Top}

-- the type of the value that begins with a cell, by its type and that of the next: IntHigh for an int. No value begins with a lone half,
-- with the low half of an int, or with a cell that may hold anything
abbrev pub value_of : Option Ty → Option Ty → Option Ty
value_of (Some IntHigh) (Some IntLow) = Some IntHigh
value_of (Some IntHigh) next = None
value_of (Some IntLow) next = None
value_of (Some Top) next = None
value_of first next = first

-- the value that begins with the cell of this number
unfoldable pub value_in_cells : List Ty → ℕ → Option Ty
value_in_cells cells n = value_of (slice_get cells n) (slice_get cells (n + 1))

-- how many cells a value of this type takes
abbrev pub type_width : Ty → ℕ
type_width IntHigh = 2
type_width ty = 1
