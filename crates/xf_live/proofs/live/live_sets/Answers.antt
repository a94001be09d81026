use Rattle.std.proofs.Common.{length, ap, ◌∙◌}
use Rattle.xf_live.proofs.Carrying.{visited, found-live, less-work}
use Rattle.xf_live.proofs.live.live_sets.Goals as goal

pub work-init : goal.work-init
work-init c = record { begins = c.in_ok-liveness.ensures }

pub visit-requires : goal.visit-requires
visit-requires c = record { sized = ap length c.in-Some.ensures.some.sets ∙ c.work.invariant.begins.size }

pub work-smaller : goal.work-smaller
work-smaller c =
    less-work c.in-Some.number c.work.liveness c.take.new.self c.visit.new.self c.in-Some.ensures.some c.work.invariant.begins.small
    c.in_ok-visit.ensures.grows

pub work-preserved : goal.work-preserved
work-preserved c = record {
  begins = visited c.args.nodes.now c.in-Some.number c.work.liveness c.take.new.self c.in-Some.ensures.some c.visit.new.self c.work.invariant.begins
      c.in_ok-visit.ensures;
}

pub returns : goal.returns
returns c = found-live c.args.nodes.now c.work.liveness c.take.new.self c.work.invariant.begins c.in_default.ensures.none
