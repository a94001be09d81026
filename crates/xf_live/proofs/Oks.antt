use Rattle.std.proofs.Common.{arith}
use Rattle.std.proofs.Common.{Result}
use Rattle.std.specs.Prelude.{IfOk, OnOk}

-- what holds where a call answers Ok
pub on-ok : {E : Type 0} (P Q : Type 0) (r : Result (Unit {0}) E) → (P → Q) → OnOk r P → OnOk r Q
on-ok x x2 x22 f h = grind (arith)

pub if-ok : {T E : Type 0} (r : Result T E) (P Q : T → Type 0) → ((x : T) → P x → Q x) → IfOk r P → IfOk r Q
if-ok x x2 x22 f h = grind (arith)
