use Rattle.cap_write.specs.Files.{IsFileOf}
use Rattle.cap_write.proofs.Risen.{filed_more}
use Rattle.cap_write.proofs.files.all_parts.Goals as goal

pub tags-preserved : goal.tags-preserved
tags-preserved c =
    filed_more (IsFileOf c.args.package.now c.args.written.now c.args.index.now) c.tags.tag c.tags.parts c.put_part.new.parts c.tags.invariant
    c.in_ok-put_part.ensures
