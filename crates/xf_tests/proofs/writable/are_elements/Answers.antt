use Rattle.std.proofs.Common.{◌≡◌, []}
use Rattle.offset_set.specs.Bits.{holds}
use Rattle.cap_desc.specs.ClassRecords.{described_left}
use Rattle.cap_desc.specs.Descriptors.{descriptor_seen}
use Rattle.xf_tests.proofs.SoFar.{none_left, so_end}
use Rattle.xf_tests.proofs.writable.are_elements.Goals as goal

pub returns-in-None-split_first : goal.returns-in-None-split_first
returns-in-None-split_first c =
    let none : c.classes.rest.now ≡ [] = none_left c.classes.rest.now c.in-None-split_first.ensures.cases in
    let all = so_end c.args.methods.now.info.bytes.now (holds c.args.interfaces.now) (descriptor_seen c.args.descriptor.now).classes
    (described_left c.classes.class-iterator) c.args.laid.now c.classes.rest.now c.classes.invariant c.in-None.ensures.steps.0 none in
    λ h. all
