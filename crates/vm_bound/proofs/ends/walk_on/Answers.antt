use Rattle.std.proofs.Common.{◌+◌, ◌∷◌, [], ◌++◌, ℕ, not, List, get_or, sym, ap, ◌∙◌, subst, arith}
use Rattle.std.proofs.lemmas.Option.{slice_get-get_or}
use Rattle.std.proofs.lemmas.List.{nil_from_length}
use Rattle.vm_bound.specs.Runs.{IsWalk}
use Rattle.vm_bound.proofs.Serving.{none-there}
use Rattle.vm_bound.proofs.Ending.{last-inside, walk-closes, walk-below, walk-anew}
use Rattle.vm_bound.proofs.ends.walk_on.Goals as goal

pub bounds-order-last : goal.bounds-order-last
bounds-order-last c =
    last-inside c.args.world.now.classes c.args.order.now c.args.at c.in-Some.last c.begun.begun.items c.pop.new.self.items c.begun.ends.items c.requires.at
    c.in-Some.ensures.items c.begun.invariant

pub returns-then-is_one : goal.returns-then-is_one
returns-then-is_one c found =
    let t = c.args.world.now.classes in
    let order = c.args.order.now in
    let at = c.args.at in
    let last = c.in-Some.last in
    let rest = c.pop.new.self.items in
    let ends = c.begun.ends.items in
    let inside = last-inside t order at last c.begun.begun.items rest ends c.requires.at c.in-Some.ensures.items c.begun.invariant in
    let walk = subst (λ (xs : List ℕ). IsWalk t order at xs ends) c.in-Some.ensures.items c.begun.invariant in
    let items = c.in_ok-push-2.ensures.items ∙ ap (λ (xs : List ℕ). xs ++ at ∷ []) c.in_ok-push.ensures.items in
    subst (λ (xs : List ℕ). IsWalk t order (at + 1) xs ends) (sym items)
    (walk-below t order at (get_or order at 0) last (get_or order last 0) rest ends c.requires.at (slice_get-get_or order at 0 c.requires.at)
    (sym c.parent-parent.ensures ∙ c.is_one.ensures c.if-is_one.true) (slice_get-get_or order last 0 inside) walk)

pub index_mut-requires : goal.index_mut-requires
index_mut-requires c =
    let t = c.args.world.now.classes in
    let order = c.args.order.now in
    let inside =
    last-inside t order c.args.at c.in-Some.last c.begun.begun.items c.pop.new.self.items c.begun.ends.items c.requires.at c.in-Some.ensures.items
    c.begun.invariant in
    let count = c.begun.invariant.count in
    let len = c.begun.ends.ok.0 in
    omega (arith, inside, count, len)

pub begun-preserved : goal.begun-preserved
begun-preserved c =
    let t = c.args.world.now.classes in
    let order = c.args.order.now in
    let at = c.args.at in
    walk-closes t order at c.in-Some.last c.pop.new.self.items c.begun.ends.items c.requires.at
    (subst (λ (xs : List ℕ). IsWalk t order at xs c.begun.ends.items) c.in-Some.ensures.items c.begun.invariant)

pub returns : goal.returns
returns c found =
    let t = c.args.world.now.classes in
    let order = c.args.order.now in
    let at = c.args.at in
    let ends = c.begun.ends.items in
    let none = nil_from_length c.begun.begun.items (omega (arith, c.begun.begun.ok.0, c.in_default.ensures.cases.0)) in
    let rest = nil_from_length c.pop.new.self.items (omega (arith, c.pop.new.self.ok.0, c.in_default.ensures.cases.1)) in
    let items = c.in_ok-push-3.ensures.items ∙ ap (λ (xs : List ℕ). xs ++ at ∷ []) rest in
    subst (λ (xs : List ℕ). IsWalk t order (at + 1) xs ends) (sym items)
    (walk-anew t order at (get_or order at 0) ends c.requires.at (slice_get-get_or order at 0 c.requires.at)
    (sym c.parent-parent.ensures ∙ none-there c.parent-parent.result (c.is_none.ensures ∙ ap not found))
    (subst (λ (xs : List ℕ). IsWalk t order at xs ends) none c.begun.invariant))
