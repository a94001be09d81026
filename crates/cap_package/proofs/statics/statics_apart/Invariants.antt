use Rattle.std.proofs.Common.{◌≡◌, map}
use Rattle.cap_desc.specs.MembersLeft.{fields_of_left}
use Rattle.cap_components.specs.Descriptions.{description}
use Rattle.cap_components.specs.Order.{least_from, least_of}
use Rattle.cap_package.specs.Pairs.{pairs}
use Rattle.cap_package.specs.StaticChecks.{share_pair}
use Rattle.cap_package.specs.StaticPlaces.{places_left}
use Rattle.cap_package.specs.Reaches.{static_start, static_reach}
use Rattle.cap_package.proofs.statics.statics_apart.Given as goal

abbrev pub invariant-places : goal.invariant-places
invariant-places l =
    least_from l.least (static_reach (map static_start (places_left l.fn.places))) (places_left l.place-iterator)
    ≡ least_of (share_pair (description l.fn.places.descriptor)) (pairs (fields_of_left l.fn.places.fields))
