use Rattle.std.proofs.Common.{sym, ◌∙◌}
use Rattle.jc_classes.specs.Tables.{classes_agree}
use Rattle.jc_classes.proofs.Agreed.{all_granted, told_short}
use Rattle.jc_classes.proofs.made_list.tables_or_fault.Goals as goal

pub build-requires-clause-short : goal.build-requires-clause-short
unfolding classes_agree
build-requires-clause-short c =
    told_short c.args.lineage.now c.args.classes.now c.args.methods.now
    (all_granted _ _ _ _ (sym c.no_holes.ensures ∙ c.in_ok-no_holes.was) (sym c.overrides_agree.ensures ∙ c.in_ok-overrides_agree.was)
    (sym c.interfaces_served.ensures ∙ c.in_ok-interfaces_served.was) (sym c.instances_fit.ensures ∙ c.in_ok-instances_fit.was))
