-- Lengths of chains, and registers that have risen.
use Rattle.std.proofs.Common.{◌≡◌, ℕ, ◌+◌, ◌*◌, ◌^◌, ◌-◌, ◌<◌, ◌≤◌, List, ◌++◌, length, drop, replicate, All, Option, Some, None}
use Rattle.std.proofs.Common.{option_map, slice_get, sum_by, IsSomeAnd, refl, sym, ap, subst, ◌∙◌, arith, length-append}
use Rattle.std.proofs.Math.Seq.{drop-append_seam}
use Rattle.std.proofs.lemmas.List.Elements.{All-replicate}
use Rattle.std.proofs.lemmas.Option.{same_Some}
use Rattle.jc_base.specs.declared.record.MethodRec.{MethodRec}
use Rattle.jc_base.specs.declared.ty.Ty.{Ty}
use Rattle.jc_base.specs.declared.ty.Ty.TheVariants.{Bottom}
use Rattle.jc_base.specs.Class.{ClassTable, IsClass, parent_of, chain, height}
use Rattle.jc_base.specs.Linked.{receiver_words}
use Rattle.jc_base.specs.World.{Linked, code_of}
use Rattle.jc_base.proofs.Climbs.{chain-alone, parent_of-class}
use Rattle.jc_decode.specs.Listing.{listing, targets}
use Rattle.jc_control.specs.Method.{Method, IsMethodOf, method_in, method_with}
use Rattle.jc_rules.specs.Flow.{start_frame, receiver_of}
use Rattle.card_verify.specs.Bound.{AreCounted, step_bound}
use Rattle.card_verify.specs.Counted.{instruction_count}
use Rattle.card_verify.specs.OverIndex.{RaisedTakesTwo}
use Rattle.card_verify.proofs.Starting.{receiver-length}

-- what is no class is alone on its chain
pub alone-on-chain : (t : ClassTable) (c most : ℕ) → (IsClass t c → ⊥) → 0 < most → length (chain t c) ≤ most
alone-on-chain t c most other more = by (parent_of t c) refl
  where
    by : (o : Option ℕ) → parent_of t c ≡ o → length (chain t c) ≤ most
    by None e = let one = ap length (chain-alone t c e) in omega (arith, one, more)
    by (Some p) e = absurd (other (parent_of-class t c p e))

-- ---- registers that are no argument

-- they start with no value
pub starts-empty : (r : MethodRec) → r.nargs ≡ length r.sig.args + receiver_words r.is_static
    → All (λ (ty : Ty). ty ≡ Bottom) (drop r.nargs (start_frame r Bottom).regs)
starts-empty r words =
    let first = receiver_of r ++ r.sig.args in
    let long : length first ≡ r.nargs = omega (arith, words, length-append (receiver_of r) r.sig.args, receiver-length r.is_static r.class) in
    let rest : drop r.nargs (start_frame r Bottom).regs ≡ replicate r.max_locals Bottom =
    ap (λ n. drop n (first ++ replicate r.max_locals Bottom)) (sym long) ∙ drop-append_seam first (replicate r.max_locals Bottom) in
    subst (All (λ (ty : Ty). ty ≡ Bottom)) (sym rest) (All-replicate (λ (ty : Ty). ty ≡ Bottom) r.max_locals Bottom refl)

-- where one of them has risen there are two passes
module _ (w : Linked) (n : ℕ) (r : MethodRec) (here : slice_get w.methods n ≡ Some r) (words : r.nargs ≡ length r.sig.args + receiver_words r.is_static)
    (law : RaisedTakesTwo w) (index : List ℕ) (regs : List Ty) (before after : ℕ)
    (raised : ¬ (All (λ (ty : Ty). ty ≡ Bottom) (drop r.nargs regs))) where
  two-of : (m : Method) → m.rec ≡ r → IsMethodOf w m → AreCounted w m index regs before after
      → before + (length index + 2 * instruction_count m) ≤ after
  two-of m same mo counted =
      law m index regs before after mo counted
      (λ e.
      raised
      (subst (λ (xs : List Ty). All (λ (ty : Ty). ty ≡ Bottom) (drop r.nargs xs))
      (sym (e ∙ ap (λ (k : MethodRec). (start_frame k Bottom).regs) same)) (starts-empty r words)))

  pub two-passes : IsSomeAnd (method_in w n) (λ m. IsMethodOf w m) → IsSomeAnd (method_in w n) (λ m. AreCounted w m index regs before after)
      → IsSomeAnd (method_in w n) (λ m. before + (length index + 2 * instruction_count m) ≤ after)
  two-passes known counted =
      let is : method_in w n ≡ Some (method_with w n r) = ap (option_map (method_with w n)) here in
      subst (λ o. IsSomeAnd o (λ m. before + (length index + 2 * instruction_count m) ≤ after)) (sym is)
      (two-of (method_with w n r) refl (subst (λ o. IsSomeAnd o (λ m. IsMethodOf w m)) is known)
      (subst (λ o. IsSomeAnd o (λ m. AreCounted w m index regs before after)) is counted))

-- ---- a bound in numbers

total :
    (r h n t e before after : ℕ) → r ≡ 4 → h ≤ 3 → n ≡ 19 → t ≤ 2 → e ≡ 2
    → after ≤ before + ((1 + r * (h + 3)) * n + ((1 + r * (h + 3)) * n + t) * 2 + e) → after ≤ before + 1431
total r h n t e before after four low many few two b =
    let c : after ≤ before + ((1 + 4 * (h + 3)) * 19 + ((1 + 4 * (h + 3)) * 19 + t) * 2 + e) =
    subst (λ x. after ≤ before + ((1 + x * (h + 3)) * 19 + ((1 + x * (h + 3)) * 19 + t) * 2 + e)) four
    (subst (λ x. after ≤ before + ((1 + r * (h + 3)) * x + ((1 + r * (h + 3)) * x + t) * 2 + e)) many b) in
    omega (arith, c, low, few, two)

module _ (w : Linked) (n : ℕ) (r : MethodRec) (code : List ℕ) (here : slice_get w.methods n ≡ Some r)
    (bytes : option_map (code_of w.infos) (slice_get w.methods n) ≡ Some code) (many : length (listing code) ≡ 19)
    (index : List ℕ) (two : length index ≡ 2) (before after : ℕ) where
  method-is : method_in w n ≡ Some (record { number = n; rec = r; code = code })
  method-is =
      ap (option_map (method_with w n)) here
      ∙ ap (λ (c : List ℕ). Some (record { number = n; rec = r; code = c }))
      (same_Some (code_of w.infos r) code (ap (option_map (code_of w.infos)) (sym here) ∙ bytes))

  pub within-1431 : sum_by (λ i. length (targets code i)) (listing code) ≤ 2 → r.nargs + r.max_locals ≡ 4 → height w.classes ≤ 3
      → IsSomeAnd (method_in w n) (λ m. (digits : ℕ) → length index < 2 ^ digits → after ≤ before + step_bound w m (length index) digits)
      → after ≤ before + 1431
  within-1431 few four low bound =
      let h = subst (λ o. IsSomeAnd o (λ m. (digits : ℕ) → length index < 2 ^ digits → after ≤ before + step_bound w m (length index) digits))
      method-is bound in
      let lt : length index < 2 ^ 2 = omega (arith, two) in
      total (r.nargs + r.max_locals) (height w.classes) (length (listing code)) (sum_by (λ i. length (targets code i)) (listing code)) (length index)
      before after four low many few two (h 2 lt)

  pub at-least-40 : IsSomeAnd (method_in w n) (λ m. before + (length index + 2 * instruction_count m) ≤ after) → before + 40 ≤ after
  at-least-40 least =
      let h = subst (λ o. IsSomeAnd o (λ m. before + (length index + 2 * instruction_count m) ≤ after)) method-is least in
      omega (arith, h, many, two)
