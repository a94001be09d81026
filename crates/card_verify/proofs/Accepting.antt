-- The methods of an accepted world have dataflow typings.
use Rattle.std.proofs.Common.{◌≡◌, ◌<◌, ℕ, zero, suc, List, length, take, sym, ap, subst, arith}
use Rattle.std.proofs.lemmas.Option.{slice_get_within}
use Rattle.jc_base.specs.declared.ty.Ty.TheVariants.{Bottom}
use Rattle.jc_base.specs.World.{Linked}
use Rattle.jc_control.specs.Method.{Method, IsMethodOf, method_with}
use Rattle.jc_rules.specs.Flow.{HasFlowTyping}
use Rattle.card_verify.specs.Answers.{AreAccepted}

some-taken : (n : ℕ) (xs : List ℕ) → 0 < length (take n xs) → 0 < n
some-taken zero xs h = absurd (omega (arith, h))
some-taken (suc n) xs h = omega arith

pub accepted-typed : (w : Linked) → AreAccepted w → (m : Method) → IsMethodOf w m → HasFlowTyping w m Bottom
accepted-typed w accepted m is =
    let code : 0 < m.rec.code_len = some-taken m.rec.code_len _ (subst (λ (c : List ℕ). 0 < length c) is.code is.filled) in
    let flow = (accepted m.number (slice_get_within w.methods m.number m.rec is.rec) m.rec is.rec code).flow in
    let same : method_with w m.number m.rec ≡ m = ap (λ (c : List ℕ). record { number = m.number; rec = m.rec; code = c }) (sym is.code) in
    subst (λ (x : Method). HasFlowTyping w x Bottom) same flow
