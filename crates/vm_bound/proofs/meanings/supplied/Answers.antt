use Rattle.std.proofs.Common.{sym, ◌∙◌}
use Rattle.vm_bound.proofs.meanings.supplied.Goals as goal

pub public_entry-requires : goal.public_entry-requires
public_entry-requires c = rw c.classes.ensures.is (c.requires.order.only _ c.in_ok-class.class (sym c.class_at.ensures ∙ c.in_ok-class.was)).number
