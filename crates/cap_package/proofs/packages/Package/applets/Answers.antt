-- The info among the parts is the one that was read.
use Rattle.std.proofs.Common.{IfSome, subst}
use Rattle.cap_frame.specs.AppletFormat.{applets_info}
use Rattle.cap_frame.specs.Applets.{applets_of}
use Rattle.cap_components.specs.PackageRecord.{PackageRecord}
use Rattle.cap_components.specs.Saying.{HoldsComponent}
use Rattle.cap_package.proofs.OneRecord.{answer_is, holds-if}
use Rattle.cap_package.proofs.packages.Package.applets.Goals as goal

pub returns-clause-info : goal.returns-clause-info
returns-clause-info c =
    let all = c.self.inside.all in
    let P : PackageRecord → Type 0 = λ p. IfSome all.applets (λ x. HoldsComponent p.parts 3 applets_info x.info.bytes.now (applets_of x)) in
    subst P c.self.view_is
    (holds-if applets_of (λ x. x.info.bytes.now) _ 3 applets_info _ (answer_is _ _ c.self.invariant.0).said.applets c.self.invariant.1.applets)
