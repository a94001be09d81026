-- What holds of a pile at every moment.
use Rattle.std.specs.Prelude.{◌≤◌}
use Rattle.std.specs.Vec.{vec_capacity}
use Rattle.cap_files.specs.declared.pile.Pile.TheInside.{Inside}
use Rattle.cap_files.specs.Laid.{IsLaid}

-- the pieces fill the buffer, and the room was taken
pub record IsPile (p : Inside) : Type 0 where
  pub laid : IsLaid p.entries.items p.buffer.items
  pub parts : p.most_parts ≤ vec_capacity p.entries
  pub bytes : p.most_bytes ≤ vec_capacity p.buffer
