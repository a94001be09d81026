use Rattle.std.proofs.Common.{◌≡◌}
use Rattle.std.specs.Prelude.{flat_map}
use Rattle.std.specs.List.{range_with_len}
use Rattle.jc_resolve.specs.Fault.{link_place}
use Rattle.first_fault.specs.Least.{least_of}
use Rattle.jc_classes.specs.TableConditions.{override_fault, replacements_in}
use Rattle.jc_classes.proofs.overrides.overrides_agree.Given as goal

abbrev pub invariant-classes : goal.invariant-classes
invariant-classes l = l.least ≡ least_of link_place (override_fault l.methods) (flat_map (replacements_in l.lineage l.classes) (range_with_len 0 l.c))
