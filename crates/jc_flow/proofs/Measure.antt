-- A frame of a method can rise less often than the method's bound.
use Rattle.std.proofs.Common.{◌≡◌, ℕ, suc, ◌+◌, ◌*◌, ◌<◌, ◌≤◌, List, [], ◌∷◌, length, sum_by, arith}
use Rattle.std.proofs.Math.Nat.{suc-mul, add-mul, mul-le-mul_right}
use Rattle.std.proofs.lemmas.List.Sums.{sum_by-cons}
use Rattle.jc_base.specs.declared.ty.Ty.{Ty}
use Rattle.jc_base.specs.Class.{ClassTable, height}
use Rattle.jc_base.specs.Order.{rises_left}
use Rattle.jc_base.specs.Laws.{IsOrderOfTypes}
use Rattle.jc_rules.specs.Demand.{Frame}
use Rattle.jc_control.specs.Method.{Method}
use Rattle.jc_rules.specs.Typing.{rises_of}
use Rattle.jc_flow.specs.Progress.{most_rises}

cells-rise : (t : ClassTable) → IsOrderOfTypes t → (xs : List Ty) → sum_by (rises_left t) xs ≤ length xs * (height t + 3)
cells-rise t order [] = omega arith
cells-rise t order (x ∷ xs) = grind (arith, sum_by-cons, suc, length, suc-mul, cells-rise t order xs)

bounded : (a b n c k : ℕ) → a ≡ n → b ≤ c → a * k + b * k < (n + c) * k + 1
bounded a b n c k e le = grind (arith, add-mul, mul-le-mul_right)

pub frame-rises : (t : ClassTable) → IsOrderOfTypes t → (m : Method) (f : Frame) → length f.regs ≡ m.rec.nargs + m.rec.max_locals
    → length f.stack ≤ m.rec.max_stack → rises_of t f < most_rises t m
frame-rises t order m f e le = grind (arith, cells-rise, bounded, length)
