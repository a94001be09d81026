-- The components that are read are those of the package that the parts stand for.
use Rattle.std.proofs.Common.{ap, ◌∙◌}
use Rattle.cap_package.specs.Agreement.{package_from}
use Rattle.cap_package.proofs.OneRecord.{stands_only, known-read, known-accepted}
use Rattle.cap_package.proofs.packaging.agreed_package.Goals as goal

pub unreachable-requires : goal.unreachable-requires
unreachable-requires c = known-accepted c.args.parts.now _ c.requires c.in-Err.ensures.value

pub invariant_of-result : goal.invariant_of-result
invariant_of-result c =
    let known = known-read c.args.parts.now _ c.requires c.in-Ok.ensures.value in
    (ap package_from c.in-Ok.ensures.parts ∙ stands_only c.args.parts.now _ known, c.in-Ok.ensures.infos)

pub returns : goal.returns
returns c = known-read c.args.parts.now _ c.requires c.in-Ok.ensures.value
