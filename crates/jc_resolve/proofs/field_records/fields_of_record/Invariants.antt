use Rattle.std.proofs.Common.{◌≡◌, ◌++◌, filter_map, flat_map}
use Rattle.cap_desc.specs.ClassRecords.{described_class_seen}
use Rattle.cap_desc.specs.MemberLists.{fields_left}
use Rattle.jc_resolve.specs.Conditions.{references_of_field_type}
use Rattle.jc_resolve.specs.Homes.{description_at, least_at, static_type_at, own_field_at, fields_at}
use Rattle.jc_resolve.proofs.field_records.fields_of_record.Given as goal

abbrev pub invariant-fields : goal.invariant-fields
invariant-fields l = record {
  own : l.own.items ++ filter_map (own_field_at l.home) (fields_left l.field-iterator) ≡ fields_at l.home (described_class_seen l.fn.described);
  statics :
      l.statics.items ++ filter_map (static_type_at l.home) (fields_left l.field-iterator)
      ≡ l.initial.statics.items ++ filter_map (static_type_at l.home) (described_class_seen l.fn.described).fields;
  least :
      least_at l.home l.least (flat_map (references_of_field_type (description_at l.home)) (fields_left l.field-iterator))
      ≡ least_at l.home l.initial.least (flat_map (references_of_field_type (description_at l.home)) (described_class_seen l.fn.described).fields);
}
