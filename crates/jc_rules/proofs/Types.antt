-- The order of types as it is computed, and what declared types and single cells are not.
use Rattle.std.proofs.Common.{◌≡◌, true, arith}
use Rattle.jc_base.specs.declared.ty.Ty.{Ty}
use Rattle.jc_base.specs.Class.{ClassTable}
use Rattle.jc_base.specs.Order.{Below, is_below}
use Rattle.jc_base.specs.Cell.{IsDeclared, IsNoHalf}
use Rattle.jc_base.specs.Laws.{IsOrderOfTypes}
use Rattle.jc_rules.specs.Demand.{IsHalf}
use Rattle.jc_rules.specs.Flow.{IsNotTop, IsNotFresh}

pub below-computed : (t : ClassTable) → IsOrderOfTypes t → {a b : Ty} → Below t a b → is_below t a b ≡ true
below-computed t order {a} {b} h = (order.decided a b).1 h

pub below-told : (t : ClassTable) → IsOrderOfTypes t → (a b : Ty) → is_below t a b ≡ true → Below t a b
below-told t order a b e = (order.decided a b).0 e

-- a declared type is no Top, and no object on which no constructor was called
pub declared-not_top : (t : ClassTable) (ty : Ty) → IsDeclared t ty → IsNotTop ty
declared-not_top t ty h = grind (arith)

pub declared-not_fresh : (t : ClassTable) (ty : Ty) → IsDeclared t ty → IsNotFresh ty
declared-not_fresh t ty h = grind (arith)

pub no-half : (a : Ty) → IsNoHalf a → ¬ (IsHalf a)
no-half a n k = grind (arith)
