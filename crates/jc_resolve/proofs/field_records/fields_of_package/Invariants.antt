use Rattle.std.proofs.Common.{◌≡◌, ◌+◌, ◌++◌, filter_map, flat_map, length, map}
use Rattle.cap_desc.specs.ClassRecords.{described_left}
use Rattle.cap_desc.specs.Members.{fields_of}
use Rattle.jc_resolve.specs.Conditions.{references_of_field_type}
use Rattle.jc_resolve.specs.Described.{spot_of_record}
use Rattle.jc_resolve.specs.Homes.{description_at, records_at, least_at, static_type_at, fields_at}
use Rattle.jc_resolve.specs.LookedUp.{references_of_field_types}
use Rattle.jc_resolve.specs.Numbers.{none_numbered, with_all}
use Rattle.jc_resolve.proofs.field_records.fields_of_package.Given as goal

abbrev pub invariant-records : goal.invariant-records
invariant-records l = record {
  statics :
      l.statics.items ++ filter_map (static_type_at l.home) (fields_of (described_left l.described-iterator))
      ≡ filter_map (static_type_at l.home) (fields_of (records_at l.home));
  records : l.records.items ++ map (fields_at l.home) (described_left l.described-iterator) ≡ map (fields_at l.home) (records_at l.home);
  numbers : with_all l.numbers (map spot_of_record (described_left l.described-iterator)) ≡ with_all none_numbered
      (map spot_of_record (records_at l.home));
  next : l.numbers.next + length (described_left l.described-iterator) ≡ length (records_at l.home);
  least :
      least_at l.home l.least (flat_map (references_of_field_type (description_at l.home)) (fields_of (described_left l.described-iterator)))
      ≡ least_at l.home l.initial.least (references_of_field_types l.home.of_package.now);
}
