use Rattle.std.proofs.Common.{◌+◌, ◌++◌, ◌∷◌, [], List, take, get_or, sym, ◌∙◌, subst}
use Rattle.std.proofs.lemmas.List.{take_more}
use Rattle.vm_bound.specs.declared.spread.Block.{Block}
use Rattle.vm_bound.specs.declared.graph.Meaning.TheVariants.{Span}
use Rattle.vm_bound.specs.declared.graph.Vertex.TheVariants.{Means}
use Rattle.vm_bound.specs.Rows.{AreBlockTargets}
use Rattle.vm_bound.proofs.Targeting.{block-skipped, block-taken}
use Rattle.vm_bound.proofs.meanings.block_targets.Goals as goal

abbrev none : Block
none = record { node = 0; by = 0 }

pub each-preserved-in_default : goal.each-preserved-in_default
each-preserved-in_default c =
    let w = c.args.world.now in
    let rec = c.args.described.now in
    let blocks = c.args.blocks.now in
    let i = c.each.block-index in
    subst (λ (seen : List Block). AreBlockTargets w rec seen c.each.targets.items) (sym (take_more blocks i none c.each-test.true))
    (block-skipped w rec (take i blocks) (get_or blocks i none) c.each.targets.items (sym c.token_told.ensures ∙ c.in_default.is) c.each.invariant)

pub each-preserved : goal.each-preserved
each-preserved c =
    let w = c.args.world.now in
    let rec = c.args.described.now in
    let blocks = c.args.blocks.now in
    let i = c.each.block-index in
    let b = get_or blocks i none in
    subst (AreBlockTargets w rec (take (i + 1) blocks)) (sym c.in_ok-push.ensures.items)
    (subst (λ (seen : List Block). AreBlockTargets w rec seen (c.each.targets.items ++ Means (Span b.node c.in-Some.token) ∷ []))
    (sym (take_more blocks i none c.each-test.true))
    (block-taken w rec (take i blocks) b c.in-Some.token c.each.targets.items (sym c.token_told.ensures ∙ c.in-Some.is) c.each.invariant))
