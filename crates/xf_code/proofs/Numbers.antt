-- The numbers and the plain size of a rewritten method.
use Rattle.std.proofs.Common.{ℕ, ◌≤◌, List, Option, ap, arith}
use Rattle.std.proofs.lemmas.List.Sums.{sum_by-append}
use Rattle.jc_base.specs.World.{Linked}
use Rattle.jc_decode.specs.declared.symbols.Symbols.{Symbols}
use Rattle.jc_decode.specs.Symbols.{plain_size}
use Rattle.jc_control.specs.Method.{Method}
use Rattle.jc_rules.specs.Demand.{Frame}
use Rattle.xf_homes.specs.declared.home.Home.{Home}
use Rattle.xf_homes.specs.Value.{type_width}
use Rattle.xf_homes.specs.Order.{AreHomes, register_sum}
use Rattle.xf_emission.specs.Emission.{AreSymbolsOf, IsPlainSize, rewritten}
use Rattle.xf_emission.specs.Numbers.{HasNumbers}

module _ (w : Linked) (m : Method) (frames : ℕ → Option Frame) (homes : List Home) where
  -- the arguments are among the homes
  arguments-fit : AreHomes w m frames homes → m.rec.nargs ≤ register_sum homes
  unfolding register_sum
  arguments-fit are = omega (arith, ap register_sum are.parts, sum_by-append (λ h. type_width h.ty) are.arguments are.others, are.filled)

  pub has-numbers : AreHomes w m frames homes → (symbols : Symbols) → AreSymbolsOf w m frames homes symbols → HasNumbers m.rec homes symbols
  unfolding rewritten
  has-numbers are symbols is = grind (arith, arguments-fit)

  pub has-size : (symbols : Symbols) → AreSymbolsOf w m frames homes symbols → IsPlainSize w m frames homes (plain_size symbols.items)
  unfolding rewritten
  has-size symbols is = record { leaders = is.leaders; marked = is.marked; sum = ap (λ (s : Symbols). plain_size s.items) is.are }
