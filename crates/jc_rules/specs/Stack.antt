-- The operand stack of a frame (JCVM 2.2, section 3.5.2) is the list of its cells, the top one first.
use Rattle.std.specs.Prelude.{ℕ, List, reverse, take}
use Rattle.jc_base.specs.declared.ty.Ty.{Ty}

-- the stack that a slice with a depth holds: its first cells, of which the last is the top
unfoldable pub cells : List Ty → ℕ → List Ty
cells slice depth = reverse (take depth slice)
