use Rattle.std.proofs.Common.{length}
use Rattle.jc_base.proofs.Objects.{public-methods_run}
use Rattle.jc_base.proofs.laws.public_methods_run.Goals as goal

pub returns : goal.returns
returns c =
    let w = c.args.world.now in
    public-methods_run (length w.infos) w.classes w.methods c.classes.ensures.links.chains c.classes.ensures.links.classes
