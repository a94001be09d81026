-- What is handed to the first method of a run.
use Rattle.std.specs.Prelude.{ℕ, ℤ, List}
use Rattle.vm_step.specs.declared.arguments.Arg.{Arg}
use Rattle.vm_step.specs.declared.arguments.Arg.TheVariants.{Number, Null, Bytes}

-- a number, null, or the bytes of an array that is made for the call
pub data Argument : Type 0 where
  number : ℤ → Argument
  null : Argument
  bytes : List ℕ → Argument

abbrev pub argument_of : Arg → Argument
argument_of (Number n) = number n
argument_of Null = null
argument_of (Bytes bs) = bytes bs.now
