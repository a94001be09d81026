use Rattle.std.proofs.Common.{ap, ◌∙◌}
use Rattle.jc_base.specs.Class.{ClassTable}
use Rattle.jc_base.specs.Order.{is_below, is_on_chain}
use Rattle.vm_run.proofs.unwinding.is_subclass.Goals as goal

pub returns : goal.returns
unfolding is_below
returns c = c.below.ensures.computed ∙ ap (λ (t : ClassTable). is_on_chain t c.args.above c.args.class) c.classes.ensures.is
