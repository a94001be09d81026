use Rattle.std.proofs.Common.{length, drop, ◌-◌, ◌≡◌}
use Rattle.jc_classes.specs.Signatures.{same_types}
use Rattle.jc_classes.proofs.signatures.same_types.Given as goal

abbrev pub invariant-types : goal.invariant-types
invariant-types l = same_types (drop l.i l.a) (drop l.i l.b) ≡ same_types l.a l.b

abbrev pub decreases-types : goal.decreases-types
decreases-types l = length l.a - l.i
