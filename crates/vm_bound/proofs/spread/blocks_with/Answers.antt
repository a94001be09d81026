use Rattle.std.proofs.Common.{◌<◌, ◌∷◌, [], length, sym, ap, ◌∙◌, subst, arith}
use Rattle.std.proofs.lemmas.List.{length-append, get_or_read}
use Rattle.vm_bound.specs.Blocks.{AreAllBlocks}
use Rattle.vm_bound.specs.Runs.{AreNaming}
use Rattle.vm_bound.proofs.Serving.{blocks-more}
use Rattle.vm_bound.proofs.spread.blocks_with.Goals as goal

pub interfaces-preserved : goal.interfaces-preserved
interfaces-preserved c =
    let t = c.args.world.now.classes in
    let order = c.args.order.now in
    let all = c.interfaces.all.items in
    let blocks = c.in_ok-blocks_of.field-0 in
    let long = length-append all (blocks ∷ []) in
    let count = c.interfaces.invariant.long in
    let items = ap length c.in_ok-push.ensures.items in
    record {
      long = omega (arith, items, long, count);
      blocks = subst (AreAllBlocks t order) (sym c.in_ok-push.ensures.items)
          (blocks-more t order all blocks c.interfaces.interface count c.interfaces.invariant.blocks c.in_ok-blocks_of.ensures);
    }

pub blocks_of-requires-clause-naming : goal.blocks_of-requires-clause-naming
blocks_of-requires-clause-naming c =
    let naming = c.args.naming.now.items in
    let i = c.interfaces.interface in
    let inside : i < length naming = omega (arith, c.interfaces-test.true, c.class_count-interface-end.ensures.is, c.requires.count) in
    let row = c.as_slice-row.ensures ∙ get_or_read naming i c.index.result.now inside c.index.ensures [] in
    subst (AreNaming c.args.world.now.classes c.args.order.now i) (sym row) (c.requires.naming i inside)
