-- the parts below the next tag, then the roles, and the Header last
use Rattle.std.proofs.Common.{◌≡◌, subst, sym, ap, arith, ◌∙◌}
use Rattle.capcheck_core.specs.Loads.{with_file}
use Rattle.capcheck_core.proofs.Stores.{AreInOrderBelow, none_in_order, next_absent, next_in_order, roles_absent, header_absent, all_in_order}
use Rattle.capcheck_core.proofs.storing.in_order.Goals as goal

pub tags-init : goal.tags-init
tags-init c = subst (AreInOrderBelow c.args.parts.now 2) (sym c.new-stores.ensures) (none_in_order c.args.parts.now)

pub add_file-requires : goal.add_file-requires
add_file-requires c = next_absent c.args.parts.now c.tags.tag c.tags.stores c.tags.invariant

pub tags-preserved : goal.tags-preserved
tags-preserved c =
    next_in_order c.args.parts.now c.tags.tag c.tags.stores c.add_file.new.stores c.tags.auto.tag c.tags.invariant
    (c.in-Ok.ensures ∙ ap (with_file c.tags.stores c.tags.tag) c.get.ensures)

pub add_file-requires-2 : goal.add_file-requires-2
add_file-requires-2 c = roles_absent c.args.parts.now c.tags.stores c.tags.tag c.tags.invariant

pub add_file-requires-3 : goal.add_file-requires-3
add_file-requires-3 c = header_absent c.args.parts.now c.tags.stores c.add_file-2.new.stores c.tags.tag _ c.tags.invariant c.in_ok-add_file.ensures

pub returns : goal.returns
returns c =
    let whole : c.tags.tag ≡ 256 = omega (arith, c.tags-test.false, c.tags.auto.tag-end) in
    all_in_order c.args.parts.now c.tags.stores c.add_file-2.new.stores c.add_file-3.new.stores c.tags.tag _ c.tags.invariant whole c.requires
    c.in_ok-add_file.ensures (c.in_ok-add_file-2.ensures ∙ ap (with_file c.add_file-2.new.stores 1) c.get-2.ensures)
