use Rattle.std.proofs.Common.{length, sym, ap, ◌∙◌, arith}
use Rattle.std.specs.Option.{option_map}
use Rattle.jc_classes.specs.TableConditions.{layout_above}
use Rattle.jc_classes.specs.Entries.{overlaid}
use Rattle.jc_classes.specs.Layout.{above_or_nothing, class_layout}
use Rattle.jc_classes.proofs.Folds.{layout_short, public_is}
use Rattle.jc_classes.proofs.Growths.{class_sized, public_made}
use Rattle.jc_classes.proofs.made_list.public_list.Goals as goal

pub invariant_of-result : goal.invariant_of-result
invariant_of-result c =
    let short = layout_short c.args.lineage.now c.args.classes.now c.args.all.now c.args.c c.index-all-c.result c.requires.layouts c.requires.class
    c.requires.known in
    let list = c.as_slice.ensures ∙ public_is c.args.lineage.now c.args.classes.now c.args.all.now c.args.c c.index-all-c.result c.requires.layouts
    c.requires.class in
    let up = option_map (λ l. l.now) c.layout_above-up.result in
    record {
      few = (class_sized c.args.classes.now c.args.c c.at.result.now c.requires.known.sized c.at.ensures).public;
      made =
          list
          ∙ public_made c.args.lineage.now c.args.classes.now c.args.c c.parent-above.result c.at.result.now up c.parent-above.ensures.step c.at.ensures
          c.layout_above-up.ensures
          ∙ ap (overlaid c.at.result.now.public) (sym c.public_above.ensures);
      short = omega (arith, short.public, ap length c.as_slice.ensures);
    }

pub returns-clause-inherited : goal.returns-clause-inherited
unfolding layout_above
returns-clause-inherited c =
    c.public_above.ensures
    ∙ ap (λ o. (above_or_nothing o).public) c.layout_above-up.ensures
    ∙ ap (λ o. (above_or_nothing (option_map (class_layout c.args.lineage.now c.args.classes.now) o)).public) c.parent-above.ensures.is

pub returns-clause-list : goal.returns-clause-list
returns-clause-list c =
    c.as_slice.ensures ∙ public_is c.args.lineage.now c.args.classes.now c.args.all.now c.args.c c.index-all-c.result c.requires.layouts c.requires.class
