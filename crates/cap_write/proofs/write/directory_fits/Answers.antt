use Rattle.std.proofs.Common.{subst}
use Rattle.cap_bytes.specs.declared.view.View.{View}
use Rattle.cap_bytes.specs.Bytes.{AreBytes}
use Rattle.cap_laying.proofs.ReadDirectory.{read_may_stand}
use Rattle.cap_write.proofs.write.directory_fits.Goals as goal

pub returns : goal.returns
returns c =
    let p = c.args.package.now in
    let h = c.directory-directory.ensures.info in
    let are : AreBytes c.directory-directory.result.info.bytes.now = subst (λ (v : View). AreBytes v.bytes.now) c.info.ensures c.are_bytes.ensures in
    read_may_stand p.header.format c.directory-directory.result.info.bytes.now p.directory are h.said
