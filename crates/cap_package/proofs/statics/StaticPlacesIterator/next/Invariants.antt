use Rattle.std.specs.Prelude.{◌≡◌, length}
use Rattle.cap_desc.specs.MembersLeft.{fields_of_left}
use Rattle.cap_package.specs.StaticPlaces.{places_left}
use Rattle.cap_package.proofs.statics.StaticPlacesIterator.next.Given as goal

abbrev pub invariant-fields : goal.invariant-fields
invariant-fields l = places_left l.self ≡ places_left l.initial.self

abbrev pub decreases-fields : goal.decreases-fields
decreases-fields l = length (fields_of_left l.self.fields)
