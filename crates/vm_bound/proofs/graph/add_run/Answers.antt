use Rattle.std.proofs.Common.{◌+◌, ◌-◌, ◌/◌, ◌%◌, List, sym, ap, ◌∙◌, subst}
use Rattle.vm_bound.specs.declared.spread.Block.{Block}
use Rattle.vm_bound.specs.Blocks.{with_if}
use Rattle.vm_bound.proofs.Covering.{IsCovering, covering-begins, covering-on}
use Rattle.vm_bound.proofs.graph.add_run.Goals as goal

pub levels-init : goal.levels-init
levels-init c = covering-begins c.args.count c.args.from c.args.to c.in-Some.class c.args.blocks.now.items c.requires.order c.requires.inside

pub levels-preserved : goal.levels-preserved
levels-preserved c =
    let low = c.levels.low in
    let high = c.levels.high in
    let by = c.in-Some.class in
    let old = c.levels.blocks.items in
    let e = c.in_ok-push_if-2.ensures
    ∙ ap (λ (bs : List Block). with_if bs (high % 2) (record { node = high - 1; by = by })) c.in_ok-push_if.ensures in
    subst
    (λ (bs : List Block). IsCovering c.args.count c.args.from c.args.to by c.args.blocks.now.items bs ((low + 1) / 2) (high / 2)) (sym e)
    (covering-on c.args.count c.args.from c.args.to by c.args.blocks.now.items old low high c.levels-test.true c.levels.invariant)
