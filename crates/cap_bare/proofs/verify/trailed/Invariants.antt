use Rattle.std.proofs.Common.{◌-◌, length}
use Rattle.cap_bare.specs.Window.{IsTrailing}
use Rattle.cap_bare.proofs.verify.trailed.Given as goal

abbrev pub invariant-walk : goal.invariant-walk
invariant-walk l = IsTrailing l.code.bytes.now l.farther l.at

abbrev pub decreases-walk : goal.decreases-walk
decreases-walk l = length l.code.bytes.now - l.farther
