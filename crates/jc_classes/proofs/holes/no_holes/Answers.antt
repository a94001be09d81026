use Rattle.std.proofs.Common.{◌∙◌}
use Rattle.jc_classes.specs.TableConditions.{hole_fault, entries_in}
use Rattle.jc_classes.proofs.Folds.{least_next}
use Rattle.jc_classes.proofs.holes.no_holes.Goals as goal

pub classes-preserved : goal.classes-preserved
classes-preserved c = (
  c.holes_after-least.ensures.is ∙ least_next (hole_fault c.args.lineage.now c.args.methods.now) (entries_in c.args.lineage.now c.args.classes.now)
      c.classes.c c.classes.least c.classes.invariant.0,
  c.holes_after-least.ensures.room,
  c.holes_after-least.ensures.none,
)
