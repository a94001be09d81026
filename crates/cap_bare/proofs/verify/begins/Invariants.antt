use Rattle.std.proofs.Common.{◌≤◌, ◌-◌}
use Rattle.cap_bare.specs.Code.{IsPlace}
use Rattle.cap_bare.specs.Window.{IsSuffixAt}
use Rattle.cap_bare.proofs.verify.begins.Given as goal

abbrev pub invariant-walk : goal.invariant-walk
invariant-walk l = record {
  reached : IsSuffixAt l.code.bytes.now l.at;
  ahead : IsPlace l.code.bytes.now l.place → l.at ≤ l.place;
}

abbrev pub decreases-walk : goal.decreases-walk
decreases-walk l = l.place - l.at
