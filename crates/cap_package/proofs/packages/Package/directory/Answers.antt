-- The info among the parts is the one that was read.
use Rattle.std.proofs.Common.{subst}
use Rattle.cap_frame.specs.DirectoryFormat.{directory_info}
use Rattle.cap_frame.specs.Header.{header_items}
use Rattle.cap_components.specs.PackageRecord.{PackageRecord}
use Rattle.cap_components.specs.Saying.{HoldsComponent}
use Rattle.cap_package.proofs.OneRecord.{answer_is, holds-info}
use Rattle.cap_package.proofs.packages.Package.directory.Goals as goal

pub returns-clause-info : goal.returns-clause-info
returns-clause-info c =
    let all = c.self.inside.all in
    let P : PackageRecord → Type 0 = λ p. HoldsComponent p.parts 2 (directory_info p.header.format) all.directory.info.bytes.now p.directory in
    subst P c.self.view_is (holds-info _ 2 (directory_info (header_items all.header).format) _ _ (answer_is _ _ c.self.invariant.0).said.directory
    c.self.invariant.1.directory)
