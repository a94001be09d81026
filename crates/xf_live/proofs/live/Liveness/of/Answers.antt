use Rattle.std.proofs.Common.{◌≡◌, ℕ, length, refl, ap, ◌∙◌, replicate, arith}
use Rattle.std.proofs.lemmas.Option.{slice_get_read}
use Rattle.std.proofs.lemmas.List.{length-replicate}
use Rattle.xf_live.specs.Set.{no_registers}
use Rattle.xf_live.proofs.Beginning.{begun-none, begun-more, begun-all}
use Rattle.xf_live.proofs.live.Liveness.of.Goals as goal

pub nodes-init : goal.nodes-init
nodes-init c =
    let count : ℕ = length c.args.nodes.now in
    let sets : c.in_ok-sets.sets.items ≡ replicate count no_registers =
    c.in_ok-sets.ensures.items_if_clones_equal (λ y h. h) ∙ ap (replicate count) c.new.ensures.is in
    record {
      begun = begun-none c.args.nodes.now (record { sets = c.in_ok-sets.sets; pending = c.new-2.result }) sets
          (ap length sets ∙ length-replicate count no_registers);
    }

pub raise-requires : goal.raise-requires
raise-requires c = let size = c.nodes.invariant.begun.size in let lt = c.nodes-test.true in omega (arith, size, lt)

pub nodes-preserved : goal.nodes-preserved
nodes-preserved c =
    let nodes = c.args.nodes.now in
    record {
      begun = begun-more nodes c.nodes.number c.index-nodes-number.result c.nodes.liveness c.raise.new.self
          (slice_get_read nodes (length nodes) c.nodes.number c.index-nodes-number.result refl c.nodes-test.true c.index-nodes-number.is)
          c.nodes.invariant.begun c.in_ok-raise.ensures;
    }

pub returns : goal.returns
returns c = begun-all c.args.nodes.now c.nodes.number c.nodes.liveness c.nodes-test.false c.nodes.invariant.begun
