use Rattle.std.proofs.Common.{◌-◌, ◌≤◌, length}
use Rattle.cap_bare.specs.Window.{IsTrailing}
use Rattle.cap_bare.proofs.WellFormed.{IsClear}
use Rattle.cap_bare.proofs.verify.find_flaw.Given as goal

abbrev pub invariant-walk : goal.invariant-walk
invariant-walk l = record {
  clear : IsClear l.code.bytes.now l.at;
  trailing : IsTrailing l.code.bytes.now l.farther l.at;
  inside : l.at ≤ length l.code.bytes.now;
}

abbrev pub decreases-walk : goal.decreases-walk
decreases-walk l = length l.code.bytes.now - l.at
