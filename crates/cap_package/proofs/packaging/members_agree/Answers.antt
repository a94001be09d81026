-- The starts that were counted are those of the methods that the Descriptor describes.
use Rattle.offset_set.specs.Bits.{holds}
use Rattle.offset_set.specs.Tallies.{tallied}
use Rattle.cap_components.specs.ComponentsSeen.{components_seen}
use Rattle.cap_components.specs.PackageRecord.{described_methods}
use Rattle.cap_package.proofs.OffsetLaws.{methods_met}
use Rattle.cap_package.proofs.packaging.members_agree.Goals as goal

pub names_agree-requires : goal.names_agree-requires
names_agree-requires c =
    methods_met (holds c.offsets.result.now) (tallied c.args.starts.now) (described_methods (components_seen c.args.all.now))
    c.offsets.ensures c.requires.starts
