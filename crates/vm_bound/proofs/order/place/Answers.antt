use Rattle.std.proofs.Common.{subst}
use Rattle.jc_base.specs.Class.{ClassTable, IsClass}
use Rattle.vm_bound.proofs.Placing.{placed-class}
use Rattle.vm_bound.proofs.order.place.Goals as goal

pub returns-in_ok-insert : goal.returns-in_ok-insert
returns-in_ok-insert c =
    let class = subst (λ (t : ClassTable). IsClass t c.args.class) c.classes.ensures.is (c.is_class.ensures.0 c.if-is_class.true) in
    placed-class c.args.world.now.classes c.args.order.now.keys c.args.class c.insert.new.self.keys class c.in_ok-insert.ensures.keys
