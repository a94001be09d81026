use Rattle.std.proofs.Common.{sym, ◌∙◌}
use Rattle.jc_classes.specs.TableConditions.{serves}
use Rattle.jc_classes.proofs.Passing.{all_next}
use Rattle.jc_classes.proofs.interfaces.serves_all.Goals as goal

pub methods-preserved : goal.methods-preserved
methods-preserved c =
    all_next (serves c.args.methods.now c.args.public.now c.args.iface.now) c.args.group.now c.methods.i c.at.result.now c.at.ensures
    (sym c.if-not-serves.false ∙ c.serves.ensures) c.methods.invariant
