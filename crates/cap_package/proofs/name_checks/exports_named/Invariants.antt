use Rattle.std.proofs.Common.{◌≡◌}
use Rattle.offset_set.specs.Bits.{holds}
use Rattle.cap_pool.specs.Export.{export_seen as exported, exported_left}
use Rattle.cap_components.specs.Order.{least_from}
use Rattle.cap_package.specs.NameChecks.{no_method_fault, exported_methods}
use Rattle.cap_package.proofs.name_checks.exports_named.Given as goal

abbrev pub invariant-classes : goal.invariant-classes
invariant-classes l =
    least_from l.least (no_method_fault (holds l.described)) (exported_methods (exported_left l.class-iterator)) ≡ least_from l.initial.least
    (no_method_fault (holds l.described)) (exported_methods (exported l.export))
