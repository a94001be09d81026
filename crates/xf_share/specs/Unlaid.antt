-- A method for which no code is laid, and what is told of it.
use Rattle.std.specs.Prelude.{◌≡◌, ℕ, IsSomeAnd}
use Rattle.jc_base.specs.World.{Linked}
use Rattle.jc_control.specs.Method.{Method, IsMethodOf, method_in}
use Rattle.jc_decode.specs.Symbols.{plain_size}
use Rattle.law_renumbered.specs.Numbers.{AreNumbersOf}
use Rattle.law_renumbered.specs.Symbols.{renumbered_method}
use Rattle.xf_layout.specs.declared.laying.LayEnd.{LayEnd}
use Rattle.xf_layout.specs.declared.laying.LayEnd.TheVariants.{MethodLong, Memory}
use Rattle.xf_layout.specs.Shortest.{ReachesTooFar}
use Rattle.xf_share.specs.declared.sharing.ShareEnd.{ShareEnd}
use Rattle.xf_share.specs.declared.sharing.ShareEnd.TheVariants as ends

-- the method has code, which is too long with the numbers that its variables share, and its plain size is this
pub record IsSharedLong (w : Linked) (n : ℕ) (m : Method) : Type 0 where
  pub method : IsMethodOf w m
  pub reg : ℕ → ℕ
  pub locals : ℕ
  pub numbers : AreNumbersOf w m reg locals
  pub long : ReachesTooFar (renumbered_method m reg locals).items
  pub size : n ≡ plain_size (renumbered_method m reg locals).items

abbrev pub TellsUnlaid : Linked → ℕ → LayEnd → Type 0
TellsUnlaid w n (MethodLong k) = IsSomeAnd (method_in w n) (IsSharedLong w k)
TellsUnlaid w n Memory = Unit {0}

abbrev pub unlaid : ℕ → LayEnd → ShareEnd
unlaid n (MethodLong k) = ends.MethodLong n k
unlaid n Memory = ends.Memory
