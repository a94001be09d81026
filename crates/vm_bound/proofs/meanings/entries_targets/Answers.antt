use Rattle.std.proofs.Common.{sym, subst, arith}
use Rattle.vm_bound.specs.Edges.{LeadsFromEntries}
use Rattle.vm_bound.specs.Rows.{AreTargets}
use Rattle.vm_bound.proofs.Targeting.{entries-past}
use Rattle.vm_bound.proofs.meanings.entries_targets.Goals as goal

pub returns-then-class-class_count : goal.returns-then-class-class_count
returns-then-class-class_count c =
    let w = c.args.world.now in
    subst (AreTargets w (LeadsFromEntries w c.args.class c.args.token)) (sym c.new.ensures.items)
    (entries-past w c.args.class c.args.token c.classes-facts.ensures.links (omega (arith, c.if-class-class_count.true, c.class_count.ensures.is)))
