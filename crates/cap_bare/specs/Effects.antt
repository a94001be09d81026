-- What each instruction names, takes and gives (JCVM 2.2, chapter 7).
use Rattle.std.specs.Prelude.{ℕ, Option, Some, None}
use Rattle.cap_bare.specs.declared.instruction.Instruction.{Instruction}
use Rattle.cap_bare.specs.declared.instruction.Instruction.TheVariants.{Push, Load, Store, Increment, Pop, Duplicate, Negate, ToByte}
use Rattle.cap_bare.specs.declared.instruction.Instruction.TheVariants.{Binary, Test, Compare, Return}

-- the register that it names
abbrev pub register_of : Instruction → Option ℕ
register_of (Load x) = Some x
register_of (Store x) = Some x
register_of (Increment x n) = Some x
register_of _ = None

-- the register that it reads
abbrev pub register_read : Instruction → Option ℕ
register_read (Load x) = Some x
register_read (Increment x n) = Some x
register_read _ = None

-- the register that it writes
abbrev pub register_written : Instruction → Option ℕ
register_written (Store x) = Some x
register_written (Increment x n) = Some x
register_written _ = None

-- how many shorts it takes from the stack
abbrev pub cells_taken : Instruction → ℕ
cells_taken (Store x) = 1
cells_taken Pop = 1
cells_taken Duplicate = 1
cells_taken Negate = 1
cells_taken ToByte = 1
cells_taken (Binary operator) = 2
cells_taken (Test order) = 1
cells_taken (Compare order) = 2
cells_taken Return = 1
cells_taken _ = 0

-- how many shorts it gives to the stack
abbrev pub cells_given : Instruction → ℕ
cells_given (Push n) = 1
cells_given (Load x) = 1
cells_given Duplicate = 2
cells_given Negate = 1
cells_given ToByte = 1
cells_given (Binary operator) = 1
cells_given _ = 0
