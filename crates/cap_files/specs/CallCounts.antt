-- The calls of one kind to a device in memory.
use Rattle.std.specs.Prelude.{ℕ, List}
use Rattle.cap_files.specs.declared.disk.Failure.{Failure}

-- how many calls were made and how many failed, and the calls that are to fail, in the order in which they were listed
pub record Counted : Type 0 where
  pub made : ℕ
  pub faults : ℕ
  pub failures : List Failure
