use Rattle.std.proofs.Common.{◌<◌, ℕ, length, ◌∙◌, subst}
use Rattle.std.specs.Prelude.{Option, MatchOption}
use Rattle.digraph.specs.Graph.{Edge}
use Rattle.digraph.specs.Way.{Recurs, IsLeastRecurring}
use Rattle.vm_bound.proofs.Answering.{least-twice, never-twice}
use Rattle.vm_bound.proofs.bounding.least_twice.Goals as goal

pub returns-in-Some : goal.returns-in-Some
returns-in-Some c =
    let w = c.args.world.now in
    let g = c.args.graph.now in
    let m = c.in-Some.method in
    let found : IsLeastRecurring (Edge g) c.from.result c.from-methods.result m =
    subst
    (λ (o : Option ℕ). MatchOption o ((v : ℕ) → v < c.from-methods.result → ¬ (Recurs (Edge g) c.from.result v))
    (IsLeastRecurring (Edge g) c.from.result c.from-methods.result)) c.in-Some.is c.in_ok-method.ensures in
    least-twice w c.classes-facts.ensures.links c.operations_are_sound.ensures.sound g c.requires.graph c.args.entry c.requires.entry m
    (subst (λ (e : ℕ). IsLeastRecurring (Edge g) e (length w.methods) m) c.from.ensures
    (subst (λ (b : ℕ). IsLeastRecurring (Edge g) c.from.result b m) (c.from-methods.ensures ∙ c.method_count.ensures.is) found))

pub returns-in-None : goal.returns-in-None
returns-in-None c =
    let w = c.args.world.now in
    let g = c.args.graph.now in
    let none : (v : ℕ) → v < c.from-methods.result → ¬ (Recurs (Edge g) c.from.result v) =
    subst
    (λ (o : Option ℕ). MatchOption o ((v : ℕ) → v < c.from-methods.result → ¬ (Recurs (Edge g) c.from.result v))
    (IsLeastRecurring (Edge g) c.from.result c.from-methods.result)) c.in-None.is c.in_ok-method.ensures in
    never-twice w c.classes-facts.ensures.links c.operations_are_sound.ensures.sound g c.requires.graph c.args.entry c.requires.entry
    (subst (λ (b : ℕ). (v : ℕ) → v < b → ¬ (Recurs (Edge g) c.args.entry v)) (c.from-methods.ensures ∙ c.method_count.ensures.is)
    (subst (λ (e : ℕ). (v : ℕ) → v < c.from-methods.result → ¬ (Recurs (Edge g) e v)) c.from.ensures none))
