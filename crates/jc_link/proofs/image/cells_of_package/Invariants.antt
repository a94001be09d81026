use Rattle.std.specs.Prelude.{◌≡◌, ◌+◌, ◌≤◌, sum_by}
use Rattle.cap_package.specs.StaticPlaces.{static_places, places_left}
use Rattle.jc_link.specs.Statics.{cells_at}
use Rattle.jc_link.proofs.image.cells_of_package.Given as goal

abbrev pub invariant-places : goal.invariant-places
invariant-places l =
    (l.total + sum_by cells_at (places_left l.place-iterator) ≡ sum_by cells_at (static_places l.«package»))
    × (sum_by cells_at (static_places l.«package») ≤ 262140)
