use Rattle.std.proofs.Common.{◌≡◌, ◌+◌, drop}
use Rattle.jc_resolve.specs.Fault.{link_place}
use Rattle.first_fault.specs.Least.{least_from}
use Rattle.jc_classes.specs.TableConditions.{override_fault, replacements_from}
use Rattle.jc_classes.proofs.overrides.overrides_in.Given as goal

abbrev pub invariant-tokens : goal.invariant-tokens
invariant-tokens l =
    least_from link_place l.least (override_fault l.methods) (replacements_from l.c (l.first + l.i) (drop l.i l.inherited) (drop l.i l.list))
    ≡ least_from link_place l.fn.least (override_fault l.methods) (replacements_from l.c l.first l.inherited l.list)
