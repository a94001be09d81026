use Rattle.std.proofs.Common.{◌≡◌, ◌+◌, ◌++◌, length}
use Rattle.arrayvec.specs.ArrayVec.{array_vec_len}
use Rattle.cap_method.specs.StaticPart.{statics_seen, arrays_left}
use Rattle.cap_package.specs.StaticChecks.{array_kinds}
use Rattle.cap_package.proofs.statics.array_kinds.Given as goal

abbrev pub invariant-arrays : goal.invariant-arrays
invariant-arrays g l =
    (l.kinds.items ++ array_kinds (arrays_left l.array-iterator) ≡ array_kinds (statics_seen l.statics).arrays)
    × (array_vec_len l.kinds + length (arrays_left l.array-iterator) ≡ l.count)
