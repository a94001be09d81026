use Rattle.jc_classes.proofs.Fills.{descent_next}
use Rattle.jc_classes.proofs.slots.fill.Goals as goal

pub descent-preserved : goal.descent-preserved
descent-preserved c =
    descent_next c.args.lineage.now c.args.classes.now c.args.slots.now.items c.descent.slots.items c.make.new.slots.items c.args.c c.descent.path.items
    c.pop.new.self.items c.in-Some.next c.descent.above
    c.facts.ensures c.requires.known c.requires.class c.in-Some.ensures.items c.descent.invariant c.in_ok-make.ensures
