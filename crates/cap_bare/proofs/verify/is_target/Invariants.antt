use Rattle.std.proofs.Common.{◌≤◌, ◌-◌, length}
use Rattle.cap_bare.specs.Code.{IsTarget}
use Rattle.cap_bare.specs.Window.{IsSuffixAt}
use Rattle.cap_bare.proofs.verify.is_target.Given as goal

abbrev pub invariant-walk : goal.invariant-walk
invariant-walk l = record {
  reached : IsSuffixAt l.code.bytes.now l.at;
  ahead : (t : IsTarget l.code.bytes.now l.place) → l.at ≤ t.from.place;
}

abbrev pub decreases-walk : goal.decreases-walk
decreases-walk l = length l.code.bytes.now - l.at
