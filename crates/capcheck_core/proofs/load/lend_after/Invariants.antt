-- what was lent so far, and then what is left, is the whole
use Rattle.std.proofs.Common.{◌≡◌, ◌++◌, drop}
use Rattle.capcheck_core.proofs.load.lend_after.Given as goal

abbrev pub invariant-parts : goal.invariant-parts
invariant-parts l = l.all ++ drop l.n l.more ≡ l.initial.all ++ l.more
