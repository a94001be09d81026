use Rattle.cap_write.specs.Files.{IsFileOf}
use Rattle.cap_write.specs.Filed.{AreFiled}
use Rattle.cap_write.proofs.files.all_parts.Given as goal

abbrev pub invariant-tags : goal.invariant-tags
invariant-tags l = AreFiled (IsFileOf l.package l.written l.index) l.tag l.parts
