-- The info among the parts is the one that was read.
use Rattle.std.proofs.Common.{subst}
use Rattle.cap_class.specs.ClassFormat.{classes_info}
use Rattle.cap_frame.specs.Header.{header_items}
use Rattle.cap_components.specs.PackageRecord.{PackageRecord}
use Rattle.cap_components.specs.Saying.{HoldsComponent}
use Rattle.cap_package.proofs.OneRecord.{answer_is, holds-info}
use Rattle.cap_package.proofs.packages.Package.classes.Goals as goal

pub returns-clause-info : goal.returns-clause-info
returns-clause-info c =
    let all = c.self.inside.all in
    let P : PackageRecord → Type 0 = λ p. HoldsComponent p.parts 6 (classes_info p.header.format) all.classes.info.bytes.now p.classes in
    subst P c.self.view_is (holds-info _ 6 (classes_info (header_items all.header).format) _ _ (answer_is _ _ c.self.invariant.0).said.classes
    c.self.invariant.1.classes)
