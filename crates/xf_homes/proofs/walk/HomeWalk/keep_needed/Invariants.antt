use Rattle.std.proofs.Common.{◌≡◌, ◌-◌}
use Rattle.xf_homes.specs.Home.{register_count}
use Rattle.xf_homes.specs.Asked.{AreLastKnown}
use Rattle.xf_homes.specs.Subject.{frames_of}
use Rattle.xf_homes.specs.Walk.{locals_events, with_events}
use Rattle.xf_homes.proofs.walk.HomeWalk.keep_needed.Given as goal

abbrev pub invariant-locals : goal.invariant-locals
invariant-locals l = record {
  same :
      with_events l.homes.keys (locals_events (frames_of l.self) l.handlers l.place l.x (register_count l.self.rec.now - l.x))
      ≡ with_events l.fn.homes.keys (locals_events (frames_of l.self) l.handlers l.place 0 (register_count l.self.rec.now));
  known : AreLastKnown (frames_of l.self) (register_count l.self.rec.now) l.homes.keys l.last;
}
