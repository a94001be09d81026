use Rattle.std.proofs.Common.{ℕ, Vec, Global, length, get_or, sym, subst}
use Rattle.std.proofs.lemmas.Option.{slice_get_within}
use Rattle.std.proofs.lemmas.List.Elements.{Contains-get_or}
use Rattle.jc_base.proofs.Lists.{IfSome-is}
use Rattle.vm_bound.specs.declared.spread.Block.{Block}
use Rattle.vm_bound.specs.Blocks.{AreBlocks}
use Rattle.vm_bound.specs.Runs.{AreRuns, IsByInnermost, AreEnds}
use Rattle.vm_bound.proofs.Serving.{ok-on}
use Rattle.vm_bound.proofs.Innermost.{innermost-blocks}
use Rattle.vm_bound.proofs.graph.interface_blocks.Goals as goal

pub swept_blocks-requires-clause-inside : goal.swept_blocks-requires-clause-inside
swept_blocks-requires-clause-inside c k d l =
    let naming = c.args.naming.now in
    let named = c.requires.naming.only (get_or naming k d) (Contains-get_or naming k d l) in
    slice_get_within c.args.order.now (get_or naming k d) named.class named.at

pub returns-in-Some : goal.returns-in-Some
returns-in-Some c =
    let t = c.args.world.now.classes in
    let order = c.args.order.now in
    let naming = c.args.naming.now in
    let interface = c.args.interface in
    let ends = c.as_slice.result.now in
    let told = IfSome-is (λ (found : Vec ℕ Global). AreEnds t order found.items) c.args.ends.now c.in-Some.ends c.requires.ends c.in-Some.is in
    let ended = subst (AreEnds t order) (sym c.as_slice.ensures.value) told in
    ok-on (λ (bs : Vec Block Global). AreRuns (length order) (IsByInnermost order ends naming) (length order) bs.items)
    (λ (bs : Vec Block Global). AreBlocks t order interface bs.items)
    (λ bs runs. innermost-blocks t c.classes-facts.ensures.links.chains interface order ends naming c.requires.order ended c.requires.naming bs.items runs)
    c.swept_blocks.result c.swept_blocks.ensures
