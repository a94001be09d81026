-- The places of the code of each method of a world at which an instruction begins.
use Rattle.std.specs.Prelude.{◌≡◌, ℕ, Bool, List, length, IfSome, slice_get}
use Rattle.jc_base.specs.World.{Linked}
use Rattle.jc_control.specs.WellFormed.{IsPlace}
use Rattle.jc_control.specs.Flags.{Marks}
use Rattle.vm_step.specs.Methods.{code_at}

-- flags for each method of a world, by number, which mark them
pub record AreMarked (w : Linked) (flags : List (List Bool)) : Type 0 where
  pub count : length flags ≡ length w.methods
  pub marks : (n : ℕ) → IfSome (slice_get flags n) (Marks (IsPlace (code_at w n)))
