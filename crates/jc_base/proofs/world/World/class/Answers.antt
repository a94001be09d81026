use Rattle.std.proofs.Common.{◌∙◌, length}
use Rattle.jc_base.proofs.Dispatches.{cells-count, count_read}
use Rattle.jc_base.proofs.world.World.class.Goals as goal

pub returns-clause-cells : goal.returns-clause-cells
returns-clause-cells c =
    rw (← c.self.view_is)
    (cells-count (length c.self.inside.infos) c.self.inside.classes c.self.inside.methods c.at.ensures.chains c.self.invariant.0.classes c.args.n
    ∙ count_read c.self.inside.classes c.args.n c.at.result.now c.at.ensures.is)
