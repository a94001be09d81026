-- Operations that are equal but for the numbers of the registers that they name.
use Rattle.std.specs.Prelude.{ℕ, ℤ}
use Rattle.jc_ops.specs.declared.operation.Sort.{Sort}
use Rattle.jc_ops.specs.declared.operation.Width.{Width}
use Rattle.jc_ops.specs.declared.operation.Operation.{Operation}
use Rattle.jc_ops.specs.declared.operation.Operation.TheVariants.{Load, Store, Increment}

pub data IsAlike : Operation → Operation → Type 0 where
  equal : {op : Operation} → IsAlike op op
  loads : {s : Sort} {x y : ℕ} → IsAlike (Load s x) (Load s y)
  stores : {s : Sort} {x y : ℕ} → IsAlike (Store s x) (Store s y)
  increments : {width : Width} {x y : ℕ} {amount : ℤ} → IsAlike (Increment width x amount) (Increment width y amount)
