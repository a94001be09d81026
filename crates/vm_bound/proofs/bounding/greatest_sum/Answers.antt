use Rattle.std.proofs.Common.{ℕ, sym, subst}
use Rattle.digraph.specs.Settled.{IsSumFrom}
use Rattle.vm_bound.specs.Weights.{AreWeights}
use Rattle.vm_bound.proofs.Answering.{greatest-chain, some-sum}
use Rattle.vm_bound.proofs.bounding.greatest_sum.Goals as goal

pub unreachable-requires : goal.unreachable-requires
unreachable-requires c =
    let w = c.args.world.now in
    let g = c.args.graph.now in
    let ws = c.deref.result.now in
    some-sum w c.classes-facts.ensures.links c.operations_are_sound.ensures.sound g c.requires.graph c.args.entry c.requires.entry ws
    c.requires.never_twice
    (subst (IsSumFrom g ws c.args.entry) c.in-None.is (subst (λ (e : ℕ). IsSumFrom g ws e c.in_ok-sum.field-0) c.from.ensures c.in_ok-sum.ensures.answer))

pub returns-clause-is : goal.returns-clause-is
returns-clause-is c =
    let w = c.args.world.now in
    let g = c.args.graph.now in
    let ws = c.deref.result.now in
    greatest-chain w c.classes-facts.ensures.links c.operations_are_sound.ensures.sound g c.requires.graph c.args.entry c.requires.entry c.args.by ws
    c.in-Some.sum (subst (AreWeights w c.args.by) (sym c.deref.ensures.value) c.in_ok-weights.ensures.weights)
    (subst (IsSumFrom g ws c.args.entry) c.in-Some.is (subst (λ (e : ℕ). IsSumFrom g ws e c.in_ok-sum.field-0) c.from.ensures c.in_ok-sum.ensures.answer))
