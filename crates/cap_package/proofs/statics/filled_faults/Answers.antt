-- Where there are no arrays, no field is at fault.
use Rattle.std.proofs.Common.{sym, ◌∙◌}
use Rattle.cap_method.specs.StaticPart.{statics_seen}
use Rattle.cap_desc.specs.MembersLeft.{fields_of_left}
use Rattle.cap_components.specs.Descriptions.{description}
use Rattle.cap_package.proofs.Unfilled.{nothing_filled}
use Rattle.cap_package.proofs.statics.filled_faults.Goals as goal

pub returns-then-count-eq0 : goal.returns-then-count-eq0
returns-then-count-eq0 c = nothing_filled (statics_seen c.args.statics.now).arrays (description c.args.descriptor.now)
    (fields_of_left c.args.fields) c.args.least (sym c.array_init_count-count.ensures ∙ c.if-count-eq0.true)
