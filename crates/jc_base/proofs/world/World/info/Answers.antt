use Rattle.std.proofs.Common.{sym}
use Rattle.jc_base.proofs.Lists.{list_at-slice_get}
use Rattle.jc_base.proofs.world.World.info.Goals as goal

pub returns : goal.returns
returns c = rw (← c.self.view_is) (sym (list_at-slice_get c.self.inside.infos c.args.package c.at.result.now c.at.ensures))
