use Rattle.std.proofs.Common.{◌≡◌, drop, true}
use Rattle.xf_homes.specs.Subject.{frames_of}
use Rattle.xf_homes.specs.Walk.{caught_events, with_events}
use Rattle.xf_homes.specs.Asked.{knows}
use Rattle.xf_homes.proofs.walk.HomeWalk.keep_caught.Given as goal

abbrev pub invariant-handlers : goal.invariant-handlers
invariant-handlers l = record {
  kept : with_events l.homes.keys (caught_events (frames_of l.self) l.place l.x l.handler-index (drop l.handler-index l.handlers))
      ≡ with_events l.fn.homes.keys (caught_events (frames_of l.self) l.place l.x 0 l.handlers);
  known : knows l.homes.keys l.x l.known ≡ true;
}
