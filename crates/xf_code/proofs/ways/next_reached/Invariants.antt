use Rattle.std.proofs.Common.{◌≡◌, ◌≤◌, length}
use Rattle.xf_homes.specs.Plan.{first_reached}
use Rattle.xf_homes.specs.PlannedMethod.{source}
use Rattle.xf_code.specs.NextReached.{AreNextFrom}
use Rattle.xf_code.proofs.ways.next_reached.Given as goal

abbrev pub invariant-places : goal.invariant-places
invariant-places l = record {
  from : AreNextFrom (source l.plan) l.next.items l.place;
  after : l.after ≡ first_reached (source l.plan) l.place;
  inside : l.place ≤ length l.plan.walk.code.bytes.now;
}

abbrev pub decreases-places : goal.decreases-places
decreases-places l = l.place
