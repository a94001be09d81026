use Rattle.std.proofs.Common.{sym, subst}
use Rattle.vm_bound.specs.Edges.{LeadsFromSpan}
use Rattle.vm_bound.specs.Rows.{AreTargets}
use Rattle.vm_bound.proofs.Targeting.{span-none, span-one}
use Rattle.vm_bound.proofs.meanings.single_targets.Goals as goal

pub returns-in-None : goal.returns-in-None
returns-in-None c =
    let w = c.args.world.now in
    let order = c.args.order.now in
    subst (AreTargets w (LeadsFromSpan w order c.args.node c.args.token)) (sym c.new.ensures.items)
    (span-none w order c.args.node c.args.token c.requires.one c.in-None.ensures)

pub returns-in_ok-vec-in-Some : goal.returns-in_ok-vec-in-Some
returns-in_ok-vec-in-Some c =
    let w = c.args.world.now in
    let order = c.args.order.now in
    subst (AreTargets w (LeadsFromSpan w order c.args.node c.args.token)) (sym c.in_ok-vec-in-Some.ensures.items)
    (span-one w order c.args.node c.args.token c.in-Some.n c.requires.one c.in-Some.ensures)
