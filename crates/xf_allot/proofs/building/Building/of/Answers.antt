use Rattle.std.proofs.Common.{◌≡◌, ◌+◌, ℕ, suc, length, refl, arith, subst}
use Rattle.jc_control.specs.Subject.{method, world_of}
use Rattle.xf_allot.specs.declared.building.Building.{Building}
use Rattle.xf_allot.specs.Graph.{IsGraphTo}
use Rattle.xf_allot.proofs.Placing.{awaited-next, graph-more}
use Rattle.xf_allot.proofs.building.Building.of.Goals as goal

pub add_instruction-requires-clause-awaited : goal.add_instruction-requires-clause-awaited
add_instruction-requires-clause-awaited c =
    awaited-next (world_of c.args.subject.now) (method c.args.subject.now) c.places.place c.places.graph c.places-test.true c.places.invariant.graph

pub places-preserved : goal.places-preserved
places-preserved c =
    let w = world_of c.args.subject.now in
    let m = method c.args.subject.now in
    let between = c.add_instruction.new.self in
    let new : Building = record { uses = between.uses; edges = c.catch.new.edges } in
    let lt = c.places-test.true in
    let next : suc c.places.place ≡ c.places.place + 1 = omega arith in
    record {
      within = omega (arith, lt);
      graph = subst (λ (n : ℕ). IsGraphTo w m n new.uses.items new.edges.items) next
          (graph-more w m c.places.place c.places.graph between new lt c.places.invariant.graph c.in_ok-add_instruction.ensures refl c.in_ok-catch.ensures);
    }

pub returns : goal.returns
returns c =
    let w = world_of c.args.subject.now in
    let m = method c.args.subject.now in
    let within = c.places.invariant.within in
    let past = c.places-test.false in
    let whole : c.places.place ≡ length m.code = omega (arith, within, past) in
    subst (λ (n : ℕ). IsGraphTo w m n c.places.graph.uses.items c.places.graph.edges.items) whole c.places.invariant.graph
