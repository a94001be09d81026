-- The room of the verifier.
use Rattle.std.specs.Prelude.{◌≡◌, ℕ, List, length}
use Rattle.jc_base.specs.declared.ty.Ty.{Ty}

-- for how many registers and for how many cells of a stack there is room
pub record CellRoom : Type 0 where
  pub registers : ℕ
  pub cells : ℕ

-- each has as many cells as a method can declare
pub record AreFull (regs stack : List Ty) : Type 0 where
  pub registers : length regs ≡ 255
  pub cells : length stack ≡ 255
