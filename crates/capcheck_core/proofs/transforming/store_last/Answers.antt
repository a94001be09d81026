-- where a store fails, the Header is the last
use Rattle.std.specs.Option.{option_copied}
use Rattle.capcheck_core.proofs.Transforms.{has_header, brought_in_part}
use Rattle.capcheck_core.proofs.transforming.store_last.Goals as goal

pub in_order-requires : goal.in_order-requires
in_order-requires g c = has_header c.args.parts.now c.requires.keeps.made c.requires.keeps.stands

pub returns : goal.returns
returns g c =
    brought_in_part c.args.packages.now c.args.roles c.args.world.now c.args.out.now c.args.parts.now c.in-Ok.stores (option_copied c.roles_beside.result)
    (g.F.Folder.folders c.args.folder.now) (g.F.Folder.folders c.store_parts.new.folder) c.requires c.in-Ok.ensures c.roles_beside.ensures c.in-Err.ensures
