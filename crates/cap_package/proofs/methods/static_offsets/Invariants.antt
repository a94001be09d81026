use Rattle.std.proofs.Common.{◌≡◌}
use Rattle.offset_set.specs.Bits.{holds}
use Rattle.cap_desc.specs.MembersLeft.{fields_of_left}
use Rattle.cap_package.specs.StaticChecks.{is_static_at}
use Rattle.offset_set.specs.Sets.{either}
use Rattle.cap_package.proofs.methods.static_offsets.Given as goal

abbrev pub invariant-fields : goal.invariant-fields
invariant-fields l = either (holds l.offsets) (is_static_at (fields_of_left l.field-iterator)) ≡ is_static_at (fields_of_left l.fn.fields)
