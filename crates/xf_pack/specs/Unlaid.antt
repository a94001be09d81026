-- A method for which no code is laid, and what is told of it.
use Rattle.std.specs.Prelude.{ℕ, IsSomeAnd}
use Rattle.jc_base.specs.World.{Linked}
use Rattle.jc_control.specs.Method.{Method, IsMethodOf, method_in}
use Rattle.xf_homes.specs.declared.finding.HomeEnd.{HomeEnd}
use Rattle.xf_homes.specs.declared.finding.HomeEnd.TheVariants as homes
use Rattle.xf_code.specs.declared.rewriting.RewriteEnd.{RewriteEnd}
use Rattle.xf_code.specs.declared.rewriting.RewriteEnd.TheVariants as rewriting
use Rattle.xf_layout.specs.declared.laying.LayEnd.{LayEnd}
use Rattle.xf_layout.specs.declared.laying.LayEnd.TheVariants as layout
use Rattle.xf_pack.specs.declared.transforming.MethodLimit.{MethodLimit}
use Rattle.xf_pack.specs.declared.transforming.MethodLimit.TheVariants.{Registers, StackLimit, MethodLong}
use Rattle.xf_pack.specs.declared.transforming.TransformEnd.{TransformEnd}
use Rattle.xf_pack.specs.declared.transforming.TransformEnd.TheVariants as ends
use Rattle.xf_pack.specs.declared.unlaid.LayingEnd.{LayingEnd}
use Rattle.xf_pack.specs.declared.unlaid.LayingEnd.TheVariants.{Passed, Memory}
use Rattle.xf_pack.specs.Limits.{PassesLimit}

-- ---- why there are no homes, no symbols and no bytes

abbrev pub of_homes : HomeEnd → LayingEnd
of_homes (homes.Registers n) = Passed (Registers n)
of_homes homes.Memory = Memory

abbrev pub of_rewriting : RewriteEnd → LayingEnd
of_rewriting rewriting.StackLimit = Passed StackLimit
of_rewriting rewriting.Memory = Memory

abbrev pub of_layout : LayEnd → LayingEnd
of_layout (layout.MethodLong n) = Passed (MethodLong n)
of_layout layout.Memory = Memory

-- ---- what is told

-- the method has code, and passes the limit
pub record IsUnlaid (w : Linked) (limit : MethodLimit) (m : Method) : Type 0 where
  pub method : IsMethodOf w m
  pub passes : PassesLimit w m limit

abbrev pub TellsUnlaid : Linked → ℕ → LayingEnd → Type 0
TellsUnlaid w n (Passed limit) = IsSomeAnd (method_in w n) (IsUnlaid w limit)
TellsUnlaid w n Memory = Unit {0}

abbrev pub unlaid : ℕ → LayingEnd → TransformEnd
unlaid n (Passed limit) = ends.Limit n limit
unlaid n Memory = ends.Memory
