-- The numbers of a rewritten method.
use Rattle.std.specs.Prelude.{◌≡◌, ◌+◌, List}
use Rattle.jc_base.specs.declared.record.MethodRec.{MethodRec}
use Rattle.jc_decode.specs.declared.symbols.Symbols.{Symbols}
use Rattle.xf_homes.specs.declared.home.Home.{Home}
use Rattle.xf_homes.specs.Order.{register_sum}

-- the arguments are the method's; there is room for one cell more; and the homes are all registers
pub record HasNumbers (r : MethodRec) (homes : List Home) (symbols : Symbols) : Type 0 where
  pub nargs : symbols.nargs ≡ r.nargs
  pub stack : symbols.max_stack ≡ r.max_stack + 1
  pub registers : symbols.nargs + symbols.max_locals ≡ register_sum homes
