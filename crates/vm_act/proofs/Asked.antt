-- The cells that a call asks for: its arguments, and the receiver under them.
use Rattle.std.proofs.Common.{◌≡◌, ℕ, ◌+◌, ◌≤◌, List, [], ◌∷◌, ◌++◌, length, arith}
use Rattle.std.specs.Prelude.{reverse, Option, slice_get}
use Rattle.std.proofs.lemmas.List.{length-reverse}
use Rattle.jc_base.specs.declared.ty.Ty.{Ty}
use Rattle.jc_base.specs.declared.record.MethodRec.{MethodRec}
use Rattle.jc_base.specs.World.{Linked}
use Rattle.jc_ops.specs.declared.operation.Want.{Want}
use Rattle.jc_ops.specs.declared.operation.Callee.{Callee}
use Rattle.jc_ops.specs.declared.operation.Operation.TheVariants as ops
use Rattle.jc_ops.specs.Sound.{receiver_count}
use Rattle.jc_rules.specs.declared.demand.Demand.{Demand}
use Rattle.jc_rules.specs.Footprint.{cells_asked}
use Rattle.jc_rules.specs.Rule.{cells_wanted, receiver_wanted, call_demands, args_at, demands}
use Rattle.vm_step.specs.Methods.{of_method}
use Rattle.vm_step.specs.Calls.{args_of}

wanted-args : (tys : List Ty) (ds : List Demand) (n d : ℕ) → n ≤ d → cells_asked (cells_wanted n tys ++ ds) ≤ d → (n + length tys ≤ d)
    × (cells_asked ds ≤ d)
wanted-args [] ds n d le h = (omega (arith, le), h)
wanted-args (ty ∷ tys) ds n d le h = grind (arith, wanted-args tys ds (n + 1) d (omega (arith, h)) (omega (arith, h)))

wanted-receiver : (n d : ℕ) (receiver : Option Want) → n ≤ d → cells_asked (receiver_wanted n receiver) ≤ d → n + receiver_count receiver ≤ d
wanted-receiver n d x le h = grind (arith)

wanted-call : (args : List Ty) (receiver : Option Want) (d : ℕ) → cells_asked (call_demands args receiver) ≤ d
    → length args + receiver_count receiver ≤ d
wanted-call args receiver d h =
    let both = wanted-args (reverse args) (receiver_wanted (length args) receiver) 0 d (omega arith) h in
    wanted-receiver (length args) d receiver (omega (arith, both.0, length-reverse args)) both.1

pub count-args : (o : Option MethodRec) → length (args_at o) ≡ of_method 0 (λ (m : MethodRec). length m.sig.args) o
count-args x = grind (arith)

pub call-cells : (w : Linked) (c : Callee) (n : ℕ) → cells_asked (demands w (ops.Call c)) ≤ n → args_of w c.method + receiver_count c.receiver ≤ n
call-cells w c n h = omega (arith, wanted-call (args_at (slice_get w.methods c.method)) c.receiver n h, count-args (slice_get w.methods c.method))
