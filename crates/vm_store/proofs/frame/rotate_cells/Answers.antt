use Rattle.std.proofs.Common.{refl}
use Rattle.vm_store.proofs.Stacks.{rotated_in_place}
use Rattle.vm_store.proofs.frame.rotate_cells.Goals as goal

pub returns : goal.returns
returns g c =
    rotated_in_place c.args.stack.now c.rotate_right.new.self _ _ _ c.args.count c.args.by c.requires.there c.requires.part refl refl refl
    c.rotate_right.ensures.after
