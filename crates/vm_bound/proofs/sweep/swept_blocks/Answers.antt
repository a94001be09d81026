use Rattle.std.proofs.Common.{◌<◌, ◌+◌, ℕ, List, length, get_or, sym, subst, arith}
use Rattle.std.specs.Prelude.{All}
use Rattle.std.proofs.lemmas.List.Elements.{All-push}
use Rattle.vm_bound.specs.Runs.{IsSweep}
use Rattle.vm_bound.proofs.Sweeping.{sweep-opens, free-later, free-end}
use Rattle.vm_bound.proofs.sweep.swept_blocks.Goals as goal

pub naming-preserved : goal.naming-preserved
naming-preserved c =
    let order = c.args.order.now in
    let ends = c.args.ends.now in
    let naming = c.args.naming.now in
    let i = c.naming.position-index in
    let to = get_or naming i 0 in
    let begun = c.add_runs.new.begun.items in
    let blocks = c.add_runs.new.blocks.items in
    let here = c.requires.inside i 0 c.naming-test.true in
    record {
      inside = subst (All (λ p. p < length order)) (sym c.in_ok-push.ensures.items)
          (All-push (λ p. p < length order) begun to c.in_ok-add_runs.ensures.begun here);
      free = λ j low l. c.requires.rising i j 0 (omega (arith, low)) l;
      most = omega (arith, here);
      sweep = subst (λ (xs : List ℕ). IsSweep order ends naming (i + 1) to xs blocks) (sym c.in_ok-push.ensures.items)
          (sweep-opens order ends naming i begun blocks c.naming-test.true
          (c.in_ok-add_runs.ensures.sweeps naming i (free-later order ends naming c.requires.rising i) c.naming.invariant.sweep));
    }

pub returns : goal.returns
returns c =
    let order = c.args.order.now in
    let naming = c.args.naming.now in
    let i = c.naming.position-index in
    let past = c.naming-test.false in
    (c.in_ok-add_runs-2.ensures.sweeps naming i (free-end order c.args.ends.now naming i (length order) (omega (arith, past))) c.naming.invariant.sweep).runs
