use Rattle.std.proofs.Common.{◌≡◌, ◌+◌, ◌*◌, List, [], ◌∷◌, ◌++◌, sym, subst, ◌∙◌, ap, arith}
use Rattle.vm_bound.specs.declared.graph.Meaning.TheVariants.{Span}
use Rattle.vm_bound.specs.declared.graph.Vertex.{Vertex}
use Rattle.vm_bound.specs.declared.graph.Vertex.TheVariants.{Means}
use Rattle.vm_bound.specs.Edges.{LeadsFromSpan}
use Rattle.vm_bound.specs.Rows.{AreTargets}
use Rattle.vm_bound.proofs.Targeting.{span-top, span-halves}
use Rattle.vm_bound.proofs.meanings.span_targets.Goals as goal

pub returns-then-node-eq0 : goal.returns-then-node-eq0
returns-then-node-eq0 c =
    let w = c.args.world.now in
    let order = c.args.order.now in
    subst (AreTargets w (LeadsFromSpan w order c.args.node c.args.token)) (sym c.new-targets.ensures.items)
    (span-top w order c.args.node c.args.token (omega (arith, c.if-node-eq0.true)) (omega (arith, c.if-node-order.false)))

pub returns : goal.returns
returns c =
    let w = c.args.world.now in
    let order = c.args.order.now in
    let x = c.args.node in
    let token = c.args.token in
    let first : c.push.new.self.items ≡ Means (Span (x * 2) token) ∷ [] =
    c.in_ok-push.ensures.items
    ∙ ap (λ (vs : List Vertex). vs ++ c.half.result ∷ []) c.new-targets.ensures.items
    ∙ ap (λ (v : Vertex). v ∷ []) c.half.ensures in
    let second : c.push-2.new.self.items ≡ Means (Span (x * 2) token) ∷ Means (Span (x * 2 + 1) token) ∷ [] =
    c.in_ok-push-2.ensures.items
    ∙ ap (λ (vs : List Vertex). vs ++ c.half-2.result ∷ []) first
    ∙ ap (λ (v : Vertex). Means (Span (x * 2) token) ∷ v ∷ []) c.half-2.ensures in
    subst (AreTargets w (LeadsFromSpan w order x token)) (sym second)
    (span-halves w order x token (omega (arith, c.if-node-eq0.false)) (omega (arith, c.if-node-order.false)))
