use Rattle.std.proofs.Common.{◌<◌, ◌≤◌, ℕ, List, length, get_or, sym, ◌∙◌, subst, arith}
use Rattle.std.specs.Prelude.{Result, Ok, Err, OnOk, All, Some}
use Rattle.std.proofs.lemmas.Option.{slice_get-get_or}
use Rattle.std.proofs.lemmas.List.{nil_from_length}
use Rattle.vm_bound.specs.Blocks.{AddsRun}
use Rattle.vm_bound.specs.Runs.{IsSweep, Sweeps}
use Rattle.vm_bound.proofs.Stacks.{front-all, last-all}
use Rattle.vm_bound.proofs.Sweeping.{sweep-on, sweep-skips, sweep-closes, free-before}
use Rattle.vm_bound.proofs.sweep.add_runs.Goals as goal

pub returns-in_default-clause-sweeps : goal.returns-in_default-clause-sweeps
returns-in_default-clause-sweeps c naming k free before =
    let order = c.args.order.now in
    let ends = c.args.ends.now in
    let now = c.pop.new.self.items in
    let blocks = c.begun.blocks.items in
    let none = nil_from_length c.begun.begun.items (omega (arith, c.begun.begun.ok.0, c.in_default.ensures.cases.0)) in
    let new = nil_from_length now (omega (arith, c.pop.new.self.ok.0, c.in_default.ensures.cases.1)) in
    subst (λ (xs : List ℕ). IsSweep order ends naming k c.args.to xs blocks) (sym new)
    (sweep-skips order ends naming k c.begun.at c.args.to blocks free c.begun.invariant.most
    (subst (λ (xs : List ℕ). IsSweep order ends naming k c.begun.at xs blocks) none (c.begun.invariant.sweeps naming k free before)))

pub bounds-order-last : goal.bounds-order-last
bounds-order-last c =
    last-all (λ p. p < length c.args.order.now) c.begun.begun.items c.pop.new.self.items c.in-Some.last c.in-Some.ensures.items c.begun.invariant.inside

pub bounds-ends-last : goal.bounds-ends-last
bounds-ends-last c =
    let inside =
    last-all (λ p. p < length c.args.order.now) c.begun.begun.items c.pop.new.self.items c.in-Some.last c.in-Some.ensures.items c.begun.invariant.inside in
    let count = c.requires.count in
    omega (arith, inside, count)

pub returns-then-to-end-clause-begun : goal.returns-then-to-end-clause-begun
returns-then-to-end-clause-begun c = ok-all c.add_run.result
  where
    all : All (λ p. p < length c.args.order.now) c.push.new.self.items
    all = subst (All (λ p. p < length c.args.order.now)) (c.in-Some.ensures.items ∙ sym c.in_ok-push.ensures.items) c.begun.invariant.inside

    ok-all : {A B : Type 0} (r : Result A B) → OnOk r (All (λ p. p < length c.args.order.now) c.push.new.self.items)
    ok-all (Ok x) = all
    ok-all (Err e) = tt

pub returns-then-to-end-clause-sweeps : goal.returns-then-to-end-clause-sweeps
returns-then-to-end-clause-sweeps c = ok-sweeps c.add_run.result c.add_run.ensures
  where
    begun : List ℕ
    begun = c.args.begun.now.items

    ok-sweeps : {A B : Type 0} (r : Result A B)
        → OnOk r
        (AddsRun (length c.args.order.now) c.begun.at c.args.to (Some (get_or c.args.order.now c.in-Some.last 0)) c.begun.blocks.items
        c.add_run.new.blocks.items)
        → OnOk r
        (Sweeps c.args.order.now c.args.ends.now c.args.from c.args.to begun c.args.blocks.now.items c.push.new.self.items c.add_run.new.blocks.items)
    ok-sweeps (Err e) adds = tt
    ok-sweeps (Ok x) adds = λ naming k free before.
        let order = c.args.order.now in
        let ends = c.args.ends.now in
        let last = c.in-Some.last in
        let rest = c.pop.new.self.items in
        let inside = last-all (λ p. p < length order) c.begun.begun.items rest last c.in-Some.ensures.items c.begun.invariant.inside in
        subst (λ (xs : List ℕ). IsSweep order ends naming k c.args.to xs c.add_run.new.blocks.items) (sym c.in_ok-push.ensures.items)
        (sweep-on order ends naming k c.begun.at c.args.to last (get_or order last 0) rest c.begun.blocks.items c.add_run.new.blocks.items free
        c.begun.invariant.most c.if-to-end.true (slice_get-get_or order last 0 inside) adds
        (subst (λ (xs : List ℕ). IsSweep order ends naming k c.begun.at xs c.begun.blocks.items) c.in-Some.ensures.items
        (c.begun.invariant.sweeps naming k free before)))

pub begun-preserved-then-at-end : goal.begun-preserved-then-at-end
begun-preserved-then-at-end c =
    let order = c.args.order.now in
    let ends = c.args.ends.now in
    let last = c.in-Some.last in
    let rest = c.pop.new.self.items in
    let end = get_or ends last 0 in
    let new = c.add_run-then-at-end.new.blocks.items in
    let inside = last-all (λ p. p < length order) c.begun.begun.items rest last c.in-Some.ensures.items c.begun.invariant.inside in
    let past = c.if-to-end.false in
    let less = c.if-at-end.true in
    let lower : end ≤ c.args.to = omega (arith, past) in
    record {
      inside = front-all (λ p. p < length order) c.begun.begun.items rest last c.in-Some.ensures.items c.begun.invariant.inside;
      most = lower;
      sweeps = λ naming k free before.
          sweep-closes order ends naming k end last rest new (omega arith)
          (sweep-on order ends naming k c.begun.at end last (get_or order last 0) rest c.begun.blocks.items new
          (free-before order ends naming k end c.args.to lower free) (omega (arith, less)) (omega arith) (slice_get-get_or order last 0 inside)
          c.in_ok-add_run.ensures
          (subst (λ (xs : List ℕ). IsSweep order ends naming k c.begun.at xs c.begun.blocks.items) c.in-Some.ensures.items
          (c.begun.invariant.sweeps naming k free before)));
    }

pub begun-preserved : goal.begun-preserved
begun-preserved c =
    let order = c.args.order.now in
    let ends = c.args.ends.now in
    let last = c.in-Some.last in
    let rest = c.pop.new.self.items in
    let over = c.if-at-end.false in
    record {
      inside = front-all (λ p. p < length order) c.begun.begun.items rest last c.in-Some.ensures.items c.begun.invariant.inside;
      most = c.begun.invariant.most;
      sweeps = λ naming k free before.
          sweep-closes order ends naming k c.begun.at last rest c.begun.blocks.items (omega (arith, over))
          (subst (λ (xs : List ℕ). IsSweep order ends naming k c.begun.at xs c.begun.blocks.items) c.in-Some.ensures.items
          (c.begun.invariant.sweeps naming k free before));
    }

pub returns-clause-sweeps : goal.returns-clause-sweeps
returns-clause-sweeps c naming k free before =
    let order = c.args.order.now in
    let ends = c.args.ends.now in
    let past = c.begun-test.false in
    let most = c.begun.invariant.most in
    subst (λ (n : ℕ). IsSweep order ends naming k n c.begun.begun.items c.begun.blocks.items) (omega (arith, past, most))
    (c.begun.invariant.sweeps naming k free before)
