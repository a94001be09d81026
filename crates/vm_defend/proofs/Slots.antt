-- The cells of static fields.
use Rattle.std.proofs.Common.{◌≡◌, ◌≤◌, ◌+◌, ℕ, zero, suc, List, [], ◌∷◌, subst, arith, Some}
use Rattle.std.specs.Prelude.{sum_by, slice_get}
use Rattle.std.proofs.lemmas.List.Sums.{sum_by-cons}
use Rattle.jc_base.specs.declared.record.StaticRec.{StaticRec}
use Rattle.jc_base.specs.Cell.{width}
use Rattle.jc_base.specs.Linked.{AreSlots}

-- each field lies among all cells
pub slot-inside : (from : ℕ) (fs : List StaticRec) (n : ℕ) (f : StaticRec) → AreSlots from fs → slice_get fs n ≡ Some f
    → f.slot + width f.kind ≤ from + sum_by (λ (r : StaticRec). width r.kind) fs
slot-inside from [] n f slots e = absurd (cc)
slot-inside from (g ∷ gs) zero f slots e =
    let same : g ≡ f = cc in
    let all = sum_by-cons (λ (r : StaticRec). width r.kind) g gs in
    subst (λ (r : StaticRec). r.slot + width r.kind ≤ from + sum_by (λ (x : StaticRec). width x.kind) (g ∷ gs)) same (omega (arith, slots.0, all))
slot-inside from (g ∷ gs) (suc n) f slots e =
    let rest = slot-inside (from + width g.kind) gs n f slots.1 e in
    let all = sum_by-cons (λ (r : StaticRec). width r.kind) g gs in
    omega (arith, rest, all)
