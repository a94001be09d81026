use Rattle.std.proofs.Common.{◌≡◌, ◌-◌, ◌≤◌, length}
use Rattle.cap_bare.specs.Code.{instructions, instructions_from}
use Rattle.cap_bare.specs.Walk.{first_wrong}
use Rattle.cap_bare.specs.Window.{IsTrailing}
use Rattle.cap_bare.proofs.verify.find_wrong.Given as goal

abbrev pub invariant-walk : goal.invariant-walk
invariant-walk l = record {
  same : first_wrong l.code.bytes.now l.bare l.depth (instructions_from l.code.bytes.now l.at)
      ≡ first_wrong l.code.bytes.now l.bare 0 (instructions l.code.bytes.now);
  trailing : IsTrailing l.code.bytes.now l.farther l.at;
  low : l.depth ≤ 15;
}

abbrev pub decreases-walk : goal.decreases-walk
decreases-walk l = length l.code.bytes.now - l.at
