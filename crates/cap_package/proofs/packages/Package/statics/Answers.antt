-- The info among the parts is the one that was read.
use Rattle.std.proofs.Common.{subst}
use Rattle.cap_method.specs.StaticFormat.{statics_info}
use Rattle.cap_components.specs.PackageRecord.{PackageRecord}
use Rattle.cap_components.specs.Saying.{HoldsComponent}
use Rattle.cap_package.proofs.OneRecord.{answer_is, holds-info}
use Rattle.cap_package.proofs.packages.Package.statics.Goals as goal

pub returns-clause-info : goal.returns-clause-info
returns-clause-info c =
    let all = c.self.inside.all in
    let P : PackageRecord → Type 0 = λ p. HoldsComponent p.parts 8 statics_info all.statics.info.bytes.now p.statics in
    subst P c.self.view_is (holds-info _ 8 statics_info _ _ (answer_is _ _ c.self.invariant.0).said.statics c.self.invariant.1.statics)
