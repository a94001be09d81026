use Rattle.std.proofs.Common.{length}
use Rattle.jc_base.proofs.Dispatches.{are_dispatched}
use Rattle.jc_base.proofs.world.World.classes.Goals as goal

pub returns-clause-dispatch : goal.returns-clause-dispatch
returns-clause-dispatch c =
    rw (← c.self.view_is)
    (are_dispatched (length c.self.inside.infos) c.self.inside.classes c.self.inside.methods c.self.invariant.0.chains c.self.invariant.0.classes)
