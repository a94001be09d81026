use Rattle.std.proofs.Common.{◌≡◌, ℕ, ◌+◌, Vec, Global, length, sym, ◌∙◌, subst, arith}
use Rattle.vm_bound.specs.Blocks.{IsOrder}
use Rattle.vm_bound.proofs.Placing.{ArePlaced, placed-any, placed-next, placed-order}
use Rattle.vm_bound.proofs.Serving.{ok-on}
use Rattle.vm_bound.proofs.order.class_order.Goals as goal

pub hint-preserved : goal.hint-preserved
hint-preserved c =
    placed-any c.args.world.now.classes c.hint.k c.hinted.result c.hint.order.keys c.place.new.order.keys c.in_ok-place.ensures c.hint.invariant

pub classes-preserved : goal.classes-preserved
classes-preserved c =
    let t = c.args.world.now.classes in
    let k = c.classes.class in
    let grown = placed-next t k (4096 + k) c.classes.order.keys c.place-in-classes.new.order.keys c.in_ok-place-2.ensures c.classes.invariant in
    let same : 4096 + k + 1 ≡ 4096 + (k + 1) = omega arith in
    subst (λ (n : ℕ). ArePlaced t (k + 1) n c.place-in-classes.new.order.keys) same grown

pub returns-clause-order : goal.returns-clause-order
returns-clause-order c =
    let t = c.args.world.now.classes in
    let k = c.classes.class in
    let end : k ≡ length t.records = omega (arith, c.class_count-class-end.ensures.is, c.classes-test.false, c.classes.auto.class-end) in
    let placed = subst (λ (n : ℕ). ArePlaced t n (4096 + k) c.classes.order.keys) end c.classes.invariant in
    ok-on (λ (v : Vec ℕ Global). ((x y : ℕ) → y ≡ x → y ≡ x) → v.items ≡ c.as_slice-2.result.now) (λ (v : Vec ℕ Global). IsOrder t v.items)
    (λ v items. subst (IsOrder t) (sym (items (λ x y e. e) ∙ c.as_slice-2.ensures.keys)) (placed-order t (4096 + k) c.classes.order.keys placed))
    c.to_vec.result c.to_vec.ensures.items_if_clones_equal
