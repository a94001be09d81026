-- What is answered of a method's registers (Chaitin 1982).
use Rattle.std.specs.Prelude.{◌≡◌, ℕ, List, length, Option, Some, None, slice_get}
use Rattle.jc_base.specs.World.{Linked}
use Rattle.jc_control.specs.Method.{Method}
use Rattle.law_share.specs.Renamed.{register_total}
use Rattle.law_share.specs.Sharing.{Allotted, IsNumbered, IsSharing, KeepsRegisters}
use Rattle.xf_allot.specs.declared.sharing.Sharing.{Sharing}

-- the new number of each register, and how many registers there are beyond the arguments: those of the method's one sharing
pub record Shares (w : Linked) (m : Method) (s : Sharing) : Type 0 where
  pub given : List Allotted
  pub is : IsSharing w m given s.locals
  pub count : length s.numbers.items ≡ register_total m
  pub numbered : (x n : ℕ) → slice_get s.numbers.items x ≡ Some n → IsNumbered m.rec.nargs given x n

-- none where the method keeps its registers
abbrev pub AnswersSharing : Linked → Method → Option Sharing → Type 0
AnswersSharing w m None = KeepsRegisters w m
AnswersSharing w m (Some s) = Shares w m s
