use Rattle.std.proofs.Common.{◌≡◌, ◌+◌, ◌≤◌}
use Rattle.cap_method.specs.StaticPart.{statics_seen, arrays_left}
use Rattle.cap_package.specs.CountChecks.{array_bytes}
use Rattle.cap_package.proofs.count_checks.array_bytes.Given as goal

abbrev pub invariant-arrays : goal.invariant-arrays
invariant-arrays l =
    (l.total + array_bytes (arrays_left l.array-iterator) ≡ array_bytes (statics_seen l.statics).arrays)
    × (array_bytes (statics_seen l.statics).arrays ≤ 65535)
