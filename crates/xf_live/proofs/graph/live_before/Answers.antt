use Rattle.std.proofs.Common.{length, sym, ap, subst, arith}
use Rattle.xf_live.specs.Live.{AreLive}
use Rattle.xf_live.specs.Flow.{AreLiveIn, AreNodesOf}
use Rattle.xf_live.proofs.Flows.{alone-length, live-by-edges}
use Rattle.xf_live.proofs.Oks.{if-ok}
use Rattle.xf_live.proofs.graph.live_before.Goals as goal

pub live_sets-requires : goal.live_sets-requires
live_sets-requires c =
    let same = ap length c.as_slice.ensures.value in
    let count = alone-length c.args.uses.now c.in_ok-nodes.nodes.items c.in_ok-nodes.ensures.alone in
    let few = c.requires in
    omega (arith, same, count, few)

pub returns : goal.returns
returns c =
    let uses = c.args.uses.now in
    let edges = c.args.edges.now in
    let nodes = c.as_slice.result.now in
    let are = subst (AreNodesOf uses edges) (sym c.as_slice.ensures.value) c.in_ok-nodes.ensures in
    if-ok c.live_sets.result (λ sets. AreLive nodes sets.items) (λ sets. AreLiveIn uses edges sets.items)
    (λ sets live. live-by-edges uses edges nodes are sets.items live) c.live_sets.ensures
