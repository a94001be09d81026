use Rattle.std.proofs.Common.{◌≡◌, false, length}
use Rattle.offset_set.specs.Bits.{holds}
use Rattle.cap_class.specs.ClassPart.{classes_left}
use Rattle.cap_package.specs.ClassSearch.{Serves}
use Rattle.cap_package.proofs.classes.ClassSearch.at.Given as goal

abbrev pub decreases-records : goal.decreases-records
decreases-records l = length (classes_left l.self.rest)

abbrev pub invariant-records : goal.invariant-records
invariant-records l =
    Serves l.self
    × (l.self.classes ≡ l.initial.self.classes)
    × (holds l.self.passed l.offset ≡ false)
