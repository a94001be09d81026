use Rattle.std.proofs.Common.{rules, length, refl}
use Rattle.std.proofs.lemmas.Option.{slice_get_read}
use Rattle.xf_live.specs.Flow.{past_end, gets_edge}
use Rattle.xf_live.proofs.Flows.{unlinked-nodes, edges-more, edges-all}
use Rattle.xf_live.proofs.graph.nodes_of.Goals as goal

pub edges-init : goal.edges-init
edges-init c = record { nodes = unlinked-nodes c.args.uses.now c.in_ok-nodes.nodes.items c.in_ok-nodes.ensures }

pub edges-preserved-then-to-len : goal.edges-preserved-then-to-len
edges-preserved-then-to-len c = record {
  nodes = edges-more c.args.uses.now c.args.edges.now c.edges.nodes.items c.edges.nodes.items c.edges.edge-index (record { «from» = 0; to = 0 }) c.edges-test.true
      c.edges.invariant.nodes (past_end (search rules) refl);
}

pub edges-preserved : goal.edges-preserved
edges-preserved c =
    let old = c.edges.nodes.items in
    let node = c.index_mut.result.now in
    record {
      nodes = edges-more c.args.uses.now c.args.edges.now old _ c.edges.edge-index _ c.edges-test.true c.edges.invariant.nodes
          (gets_edge node (record { reads = node.reads; writes = node.writes; «from» = c.push.new.self })
          (slice_get_read old (length old) _ node refl (search rules) c.index_mut.ensures.value) refl refl refl c.in_ok-push.ensures.items);
    }

pub returns : goal.returns
returns c = edges-all c.args.uses.now c.args.edges.now c.edges.nodes.items c.edges.edge-index c.edges-test.false c.edges.invariant.nodes
