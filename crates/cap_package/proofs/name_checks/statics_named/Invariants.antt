use Rattle.std.proofs.Common.{◌≡◌}
use Rattle.offset_set.specs.Bits.{holds}
use Rattle.cap_pool.specs.Export.{export_seen as exported, exported_left}
use Rattle.cap_components.specs.Order.{least_of, least_from}
use Rattle.cap_package.specs.NameChecks.{exported_fields}
use Rattle.cap_package.specs.StaticChecks.{no_static_fault}
use Rattle.cap_package.proofs.name_checks.statics_named.Given as goal

abbrev pub invariant-classes : goal.invariant-classes
invariant-classes l =
    least_from l.least (no_static_fault (holds l.fields)) (exported_fields (exported_left l.class-iterator)) ≡ least_of (no_static_fault (holds l.fields))
    (exported_fields (exported l.export))
