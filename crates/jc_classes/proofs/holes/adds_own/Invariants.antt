use Rattle.jc_classes.proofs.Growths.{AddsUpTo}
use Rattle.jc_classes.proofs.holes.adds_own.Given as goal

abbrev pub invariant-tokens : goal.invariant-tokens
invariant-tokens l = AddsUpTo l.methods l.c l.first l.token l.inherited l.list
