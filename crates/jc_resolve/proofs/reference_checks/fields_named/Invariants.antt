use Rattle.std.proofs.Common.{◌≡◌, flat_map}
use Rattle.cap_desc.specs.MemberLists.{fields_left}
use Rattle.jc_resolve.specs.Conditions.{reference_of_field}
use Rattle.jc_resolve.specs.LookedUp.{least_named}
use Rattle.jc_resolve.proofs.reference_checks.fields_named.Given as goal

abbrev pub invariant-fields : goal.invariant-fields
invariant-fields l =
    least_named l.index l.«package» l.least (flat_map reference_of_field (fields_left l.field-iterator))
    ≡ least_named l.index l.«package» l.initial.least (flat_map reference_of_field (fields_left l.fn.fields))
