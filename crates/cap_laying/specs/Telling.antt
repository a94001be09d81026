-- Places that are told after others.
use Rattle.std.specs.Prelude.{◌≡◌, ◌≤◌, ℕ, List, ◌++◌, length}
use Rattle.cap_laying.specs.declared.location_component.ToldPlaces.{ToldPlaces}
use Rattle.cap_laying.specs.Distances.{distances, last_of}

-- the places were told: their distances were appended, and the last of them is the last one now
pub record AppendsDistances (old : ToldPlaces) (places : List ℕ) (new : ToldPlaces) : Type 0 where
  pub bytes : new.bytes.items ≡ old.bytes.items ++ distances old.last places
  pub last : new.last ≡ last_of old.last places

-- the places that were told take no more bytes than the last of them is large
pub record IsFew (told : ToldPlaces) : Type 0 where
  pub few : length told.bytes.items ≤ told.last
