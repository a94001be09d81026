use Rattle.std.proofs.Common.{◌≡◌, ◌<◌, ◌≤◌, ◌+◌, ℕ, Bool, true, length, IfSome, slice_get, ◌∙◌, sym, subst, arith}
use Rattle.jc_ops.specs.Resolve.{passes_test, is_described, described}
use Rattle.jc_ops.proofs.Described.{Finds, Finds-skip, Finds-take, Finds-two, described_from, described_to, passes-read}
use Rattle.jc_ops.proofs.calls.only_described.Goals as goal
use Rattle.jc_ops.proofs.calls.only_described.Goals.{then-is_described+in-None, else-is_described}

pub returns-in-Some-clause-is : goal.returns-in-Some-clause-is
unfolding described
returns-in-Some-clause-is c =
    let p : ℕ → Bool = λ n. passes_test (is_described c.args.interface c.args.token) (slice_get c.args.world.now.methods n) in
    let here : p c.methods.n ≡ true =
    passes-read c.args.world.now.methods c.args.interface c.args.token c.methods.n c.method.result.now c.is_described.result c.method.ensures.is
    c.is_described.ensures ∙ c.if-is_described.true in
    let most : c.method_bounds-bounds.result.end ≤ length c.args.world.now.methods = c.method_bounds-bounds.ensures.inside in
    Finds-two p (length c.args.world.now.methods) c.methods.n c.in-Some.field-0 (omega arith) here
    (subst (λ o. Finds p (length c.args.world.now.methods) o c.methods.n) c.in-Some.is c.methods.invariant.finds)

pub methods-preserved : goal.methods-preserved
methods-preserved c =
    let p : ℕ → Bool = λ n. passes_test (is_described c.args.interface c.args.token) (slice_get c.args.world.now.methods n) in
    let most : c.method_bounds-bounds.result.end ≤ length c.args.world.now.methods = c.method_bounds-bounds.ensures.inside in
    let inside : c.methods.n < length c.args.world.now.methods = omega arith in
    let here : p c.methods.n ≡ c.is_described.result =
    passes-read c.args.world.now.methods c.args.interface c.args.token c.methods.n c.method.result.now c.is_described.result c.method.ensures.is
    c.is_described.ensures in
    elim c.if-is_described.branch [
      | then-is_described+in-None w ↦ record {
        inside = subst (λ o. IfSome o (λ n. n < length c.args.world.now.methods)) (sym w.found-is) inside;
        finds = subst (λ o. Finds p (length c.args.world.now.methods) o (c.methods.n + 1)) (sym w.found-is)
            (Finds-take p (length c.args.world.now.methods) c.methods.n inside (here ∙ w.if-is_described.true)
            (subst (λ o. Finds p (length c.args.world.now.methods) o c.methods.n) w.in-None.is c.methods.invariant.finds));
      }
      | else-is_described w ↦ record {
        inside = subst (λ o. IfSome o (λ n. n < length c.args.world.now.methods)) (sym w.found-is) c.methods.invariant.inside;
        finds = subst (λ o. Finds p (length c.args.world.now.methods) o (c.methods.n + 1)) (sym w.found-is)
            (Finds-skip p (length c.args.world.now.methods) c.methods.n c.methods.found inside (here ∙ w.if-is_described.false) c.methods.invariant.finds);
      }
    ]

pub methods-init : goal.methods-init
methods-init c = record {
  inside = tt;
  finds = described_from c.args.world.now.methods c.args.interface c.args.token c.method_bounds-bounds.result c.method_bounds-bounds.ensures;
}

pub returns-clause-is : goal.returns-clause-is
returns-clause-is c =
    let most : c.method_bounds-bounds.result.end ≤ length c.args.world.now.methods = c.method_bounds-bounds.ensures.inside in
    described_to c.args.world.now.methods c.args.interface c.args.token c.method_bounds-bounds.result c.method_bounds-bounds.ensures
    c.methods.found c.methods.n (omega arith) (omega arith) c.methods.invariant.finds
