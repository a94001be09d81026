use Rattle.std.proofs.Common.{◌≡◌, take}
use Rattle.link_tests.proofs.lending.lent.Given as goal

abbrev pub invariant-packages : goal.invariant-packages
invariant-packages l = l.parts.items ≡ take l.owned-index l.«packages»
