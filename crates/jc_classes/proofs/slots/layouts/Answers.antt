use Rattle.jc_classes.proofs.Fills.{none_filled}
use Rattle.jc_classes.proofs.slots.layouts.Goals as goal

pub classes-init : goal.classes-init
classes-init c = none_filled c.args.lineage.now c.args.classes.now c.in_ok-slots.slots.items c.len-count.result c.len-count.ensures c.in_ok-slots.ensures
