-- How many cells a value takes on a stack or in registers (JCVM 2.2, section 3.1).
use Rattle.std.specs.Prelude.{ℕ, ◌+◌}
use Rattle.jc_ops.specs.declared.operation.Sort.{Sort}
use Rattle.jc_ops.specs.declared.operation.Sort.TheVariants as sorts
use Rattle.jc_ops.specs.declared.operation.Arithmetic.{Arithmetic}
use Rattle.jc_ops.specs.declared.operation.Arithmetic.TheVariants as arithmetic
use Rattle.vm_step.specs.Numbers.{number_width}

abbrev pub sort_width : Sort → ℕ
sort_width sorts.Int = 2
sort_width _ = 1

-- how many cells a number is computed of, and how many it takes
abbrev pub computed_of : Arithmetic → ℕ
computed_of (arithmetic.Binary operator width) = number_width width + number_width width
computed_of (arithmetic.Negate width) = number_width width
computed_of arithmetic.ShortToByte = 1
computed_of arithmetic.ShortToInt = 1
computed_of arithmetic.IntToByte = 2
computed_of arithmetic.IntToShort = 2
computed_of arithmetic.CompareInts = 4

abbrev pub computed_to : Arithmetic → ℕ
computed_to (arithmetic.Binary operator width) = number_width width
computed_to (arithmetic.Negate width) = number_width width
computed_to arithmetic.ShortToInt = 2
computed_to _ = 1
