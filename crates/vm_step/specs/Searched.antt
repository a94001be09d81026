-- Interfaces that a search has left: by number, those from which nothing leads to the one that is sought.
use Rattle.std.specs.Prelude.{◌≡◌, ℕ, Bool, true, false, List, Some, slice_get}
use Rattle.jc_base.specs.Class.{ClassTable}
use Rattle.jc_base.specs.Interface.{is_or_extends}

pub record AreLeft (t : ClassTable) (sought : ℕ) (searched : List Bool) : Type 0 where
  pub each : (i : ℕ) → slice_get searched i ≡ Some true → is_or_extends t i sought ≡ false
