use Rattle.std.proofs.Common.{arith}
use Rattle.jc_base.proofs.Filling.{none_filled}
use Rattle.jc_base.proofs.visible_bodies.visible_bodies.Goals as goal

pub classes-init : goal.classes-init
classes-init c =
    none_filled c.args.classes.now c.args.methods.now c.in_ok-slots.slots.items c.len-count.result c.len-count.ensures
    (c.in_ok-slots.ensures.items_if_clones_equal (λ y cloned. grind arith))
