use Rattle.std.proofs.Common.{◌≡◌, flat_map}
use Rattle.jc_decode.specs.Instructions.{rest_of}
use Rattle.xf_homes.specs.Home.{register_count}
use Rattle.xf_homes.specs.Asked.{LocalsAreKnown}
use Rattle.xf_homes.specs.Subject.{walked, frames_of}
use Rattle.xf_homes.specs.Walk.{place_events, code_events, with_events}
use Rattle.xf_homes.proofs.walk.HomeWalk.find.Given as goal

abbrev pub invariant-walk : goal.invariant-walk
invariant-walk l = record {
  same :
      with_events l.homes.keys
      (flat_map (place_events l.self.world.now (walked l.self) (frames_of l.self) l.self.control.now.leaders) (rest_of l.placed-iterator))
      ≡ with_events l.fn.homes.keys (code_events l.self.world.now (walked l.self) (frames_of l.self) l.self.control.now.leaders);
  known : LocalsAreKnown (frames_of l.self) (register_count l.self.rec.now) l.homes.keys l.self.rec.now.handlers l.last;
}
