-- where a store fails, the Header is the last
use Rattle.std.proofs.Common.{subst, ◌∙◌}
use Rattle.std.specs.Option.{option_copied}
use Rattle.capcheck_core.specs.Stores.{AreInStoreOrder}
use Rattle.capcheck_core.proofs.Sharings.{same_line, shared_in_part}
use Rattle.capcheck_core.proofs.Transforms.{has_header}
use Rattle.capcheck_core.proofs.sharing.store_shared.Goals as goal

pub in_order-requires : goal.in_order-requires
in_order-requires g c = has_header c.args.fewer.now.parts c.requires.shared.keeps.made c.requires.shared.keeps.stands

pub returns-in-Ok-store_parts : goal.returns-in-Ok-store_parts
returns-in-Ok-store_parts g c = record {
  stores = c.in-Ok.stores;
  shares = record {
    parts = c.args.fewer.now.parts;
    made = c.requires.shared;
    order = subst (λ r. AreInStoreOrder c.args.fewer.now.parts r c.in-Ok.stores) c.roles_beside.ensures c.in-Ok.ensures;
  };
  stored = c.in-Ok-store_parts.ensures;
  prints = c.in-Ok-shared.ensures ∙ same_line _ _ _ _ _ _ c.count_of_last.ensures c.requires.before c.requires.after;
}

pub returns : goal.returns
returns g c =
    shared_in_part c.args.packages.now c.args.roles c.args.world.now c.args.out.now c.args.fewer.now.parts c.in-Ok.stores (option_copied c.roles_beside.result)
    (g.F.Folder.folders c.args.folder.now) (g.F.Folder.folders c.store_parts.new.folder)
    c.requires.shared c.in-Ok.ensures c.roles_beside.ensures c.in-Err.ensures
