use Rattle.std.proofs.Common.{◌∙◌}
use Rattle.jc_classes.specs.TableConditions.{override_fault, replacements_in}
use Rattle.jc_classes.proofs.Folds.{least_next}
use Rattle.jc_classes.proofs.overrides.overrides_agree.Goals as goal

pub classes-preserved : goal.classes-preserved
classes-preserved c =
    c.overrides_of-least.ensures ∙ least_next (override_fault c.args.methods.now) (replacements_in c.args.lineage.now c.args.classes.now) c.classes.c
    c.classes.least c.classes.invariant
