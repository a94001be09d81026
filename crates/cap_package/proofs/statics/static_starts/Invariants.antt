use Rattle.std.proofs.Common.{◌≡◌, map}
use Rattle.offset_set.specs.Tallies.{tallied, tally_of, with_all}
use Rattle.cap_package.specs.StaticPlaces.{places_left}
use Rattle.cap_package.specs.Reaches.{static_start}
use Rattle.cap_package.proofs.statics.static_starts.Given as goal

abbrev pub invariant-places : goal.invariant-places
invariant-places l =
    with_all (tallied l.starts) (map static_start (places_left l.place-iterator))
    ≡ tally_of (map static_start (places_left l.fn.places))
