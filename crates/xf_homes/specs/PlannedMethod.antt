-- The method whose plan is asked for.
use Rattle.xf_homes.specs.Subject.{walked, frames_of}
use Rattle.xf_homes.specs.declared.plan.Plan.{Plan}
use Rattle.xf_homes.specs.Source.{Source}

abbrev pub source : Plan → Source
source p = record {
  world = p.walk.world.now;
  method = walked p.walk;
  frames = frames_of p.walk;
  leaders = p.walk.control.now.leaders;
  homes = p.homes.now;
}
