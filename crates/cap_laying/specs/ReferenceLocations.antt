-- Laws of distances.
use Rattle.std.specs.Prelude.{◌≡◌, ℕ, List}
use Rattle.cap_laying.specs.Distances.{Rise, distances, places_in}

-- rising places are those that their distances tell
abbrev pub PlacesReadBack : Type 0
PlacesReadBack = (last : ℕ) (places : List ℕ) → Rise last places → places_in last (distances last places) ≡ places
