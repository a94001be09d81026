use Rattle.std.proofs.Common.{◌∙◌}
use Rattle.cap_load.specs.Joining.{file_in}
use Rattle.cap_load.proofs.Choosing.{joined_order}
use Rattle.cap_load.proofs.Joins.{customs_step, customs_end}
use Rattle.cap_load.proofs.packing.joined.Goals as goal

pub customs-preserved : goal.customs-preserved
customs-preserved c = customs_step (file_in c.args.parts.now) _ _ _ c.customs.tag c.customs-test.true c.customs.invariant c.in_ok-append.ensures

pub returns : goal.returns
returns c = customs_end (file_in c.args.parts.now) _ _ c.customs.tag c.customs-test.false c.customs.invariant ∙ joined_order (file_in c.args.parts.now)
