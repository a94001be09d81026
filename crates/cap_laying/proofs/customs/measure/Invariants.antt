use Rattle.cap_frame.specs.Directory.{customs_left, directory_items}
use Rattle.cap_laying.proofs.Kept.{IsMeasured}
use Rattle.cap_laying.proofs.customs.measure.Given as goal

abbrev pub invariant-customs : goal.invariant-customs
invariant-customs l = IsMeasured l.change (directory_items l.directory).customs l.kept.count l.kept.size (customs_left l.custom-iterator)
