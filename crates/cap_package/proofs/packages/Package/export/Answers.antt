-- The info among the parts is the one that was read.
use Rattle.std.proofs.Common.{IfSome, subst}
use Rattle.cap_pool.specs.ExportFormat.{export_info}
use Rattle.cap_pool.specs.Export.{export_seen as exported}
use Rattle.cap_components.specs.PackageRecord.{PackageRecord}
use Rattle.cap_components.specs.Saying.{HoldsComponent}
use Rattle.cap_package.proofs.OneRecord.{answer_is, holds-if}
use Rattle.cap_package.proofs.packages.Package.export.Goals as goal

pub returns-clause-info : goal.returns-clause-info
returns-clause-info c =
    let all = c.self.inside.all in
    let P : PackageRecord → Type 0 = λ p. IfSome all.export (λ x. HoldsComponent p.parts 10 export_info x.info.bytes.now (exported x)) in
    subst P c.self.view_is
    (holds-if exported (λ x. x.info.bytes.now) _ 10 export_info _ (answer_is _ _ c.self.invariant.0).said.export c.self.invariant.1.export)
