-- What holds of a loader at every moment.
use Rattle.std.specs.Prelude.{◌≤◌, length}
use Rattle.std.specs.Vec.{vec_capacity}
use Rattle.cap_load.specs.declared.loader.Loader.TheInside.{Inside}
use Rattle.cap_load.specs.Loaded.{IsRead}

-- the room was taken, and the contents fit it; they are components in order, and a front of one
pub record IsLoader (loader : Inside) : Type 0 where
  pub room : loader.room ≤ vec_capacity loader.contents
  pub few : length loader.contents.items ≤ loader.room
  pub read : IsRead loader.contents.items loader.reading
