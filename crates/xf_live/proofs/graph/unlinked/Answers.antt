use Rattle.std.proofs.Common.{refl}
use Rattle.xf_live.proofs.Flows.{unlinked-more}
use Rattle.xf_live.proofs.graph.unlinked.Goals as goal

pub uses-preserved : goal.uses-preserved
uses-preserved c = record {
  nodes = unlinked-more c.args.uses.now c.uses.nodes.items c.push.new.self.items c.uses.node-index _ _ c.uses-test.true c.uses.invariant.nodes
      (record { reads = refl; writes = refl }) c.new-from.ensures.items c.in_ok-push.ensures.items;
}
