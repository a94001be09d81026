use Rattle.std.proofs.Common.{◌≡◌, length}
use Rattle.jc_base.specs.Class.{IsClass, chain}
use Rattle.jc_base.proofs.Bodies.{Climbs}
use Rattle.jc_base.proofs.visible_bodies.visible_have_bodies.Given as goal

abbrev pub invariant-climb : goal.invariant-climb
invariant-climb l = record {
  class : IsClass l.classes l.at;
  room : length l.seen ≡ 16;
  climbs : Climbs l.classes l.methods l.class l.seen l.at;
}

abbrev pub decreases-climb : goal.decreases-climb
decreases-climb l = length (chain l.classes l.at)
