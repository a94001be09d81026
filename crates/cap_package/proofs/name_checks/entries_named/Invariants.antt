use Rattle.std.proofs.Common.{◌≡◌}
use Rattle.offset_set.specs.Bits.{holds}
use Rattle.cap_class.specs.ClassPart.{records, classes_left}
use Rattle.cap_components.specs.Order.{least_of, least_from}
use Rattle.cap_package.specs.NameChecks.{no_entry_fault, table_entries}
use Rattle.cap_package.proofs.name_checks.entries_named.Given as goal

abbrev pub invariant-classes : goal.invariant-classes
invariant-classes l =
    least_from l.least (no_entry_fault (holds l.described)) (table_entries (classes_left l.class-iterator))
    ≡ least_of (no_entry_fault (holds l.described)) (table_entries (records l.classes))
