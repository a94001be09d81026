-- where a store fails, the Header is the last
use Rattle.std.specs.Option.{option_copied}
use Rattle.capcheck_core.specs.Assemble.{IsAssembled}
use Rattle.capcheck_core.proofs.Stores.{stored_in_part}
use Rattle.capcheck_core.proofs.Transforms.{has_header}
use Rattle.capcheck_core.proofs.assembling.store_assembled.Goals as goal

pub in_order-requires : goal.in_order-requires
in_order-requires g c = has_header c.args.parts.now c.requires.again.made c.requires.again.stands

pub returns : goal.returns
returns g c =
    stored_in_part (IsAssembled c.args._read.now c.args.methods.now) (option_copied c.args.roles) c.args.out.now c.args.parts.now c.in-Ok.stores
    (g.F.Folder.folders c.args.folder.now) (g.F.Folder.folders c.store_parts.new.folder) c.requires c.in-Ok.ensures c.in-Err.ensures
