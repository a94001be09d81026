use Rattle.std.proofs.Common.{sym, ap, ◌∙◌}
use Rattle.jc_base.specs.Linked.{cells_above}
use Rattle.jc_base.proofs.Dispatches.{count_read}
use Rattle.jc_link.proofs.Rooms.{no_parent}
use Rattle.jc_link.proofs.fields.cells_above.Goals as goal

pub returns-then-is_interface : goal.returns-then-is_interface
returns-then-is_interface c = sym (no_parent c.args.classes.now c.args.class (sym c.is_interface.ensures ∙ c.if-is_interface.true))

pub returns-in-Some : goal.returns-in-Some
returns-in-Some c =
    sym (count_read c.args.classes.now c.in-Some.parent c.at.result.now c.at.ensures.is) ∙ ap (cells_above c.args.classes.now) c.in-Some.ensures.is
