use Rattle.std.proofs.Common.{length, sym, ap, ◌∙◌, arith, []}
use Rattle.std.specs.Prelude.{if◌then◌else◌}
use Rattle.std.specs.Option.{option_map}
use Rattle.jc_classes.specs.Outline.{parent_of}
use Rattle.jc_classes.specs.TableConditions.{layout_above}
use Rattle.jc_classes.specs.Entries.{overlaid}
use Rattle.jc_classes.specs.Layout.{above_or_nothing, at_home, class_layout}
use Rattle.jc_classes.proofs.Folds.{layout_short, visible_is}
use Rattle.jc_classes.proofs.Growths.{class_sized, visible_made}
use Rattle.jc_classes.proofs.made_list.visible_list.Goals as goal

pub invariant_of-result : goal.invariant_of-result
invariant_of-result c =
    let short = layout_short c.args.lineage.now c.args.classes.now c.args.all.now c.args.c c.index-all-c.result c.requires.layouts c.requires.class
    c.requires.known in
    let list = c.as_slice.ensures ∙ visible_is c.args.lineage.now c.args.classes.now c.args.all.now c.args.c c.index-all-c.result c.requires.layouts
    c.requires.class in
    let up = option_map (λ l. l.now) c.layout_above-up.result in
    record {
      few = (class_sized c.args.classes.now c.args.c c.at.result.now c.requires.known.sized c.at.ensures).visible;
      made =
          list
          ∙ visible_made c.args.lineage.now c.args.classes.now c.args.c c.parent-above.result c.at.result.now up c.parent-above.ensures.step c.at.ensures
          c.layout_above-up.ensures
          ∙ ap (λ b. overlaid c.at.result.now.visible (if b then (above_or_nothing up).visible else [])) (sym c.at_home-home.ensures)
          ∙ ap (overlaid c.at.result.now.visible) (sym c.visible_above.ensures);
      short = omega (arith, short.visible, ap length c.as_slice.ensures);
    }

pub returns-clause-inherited : goal.returns-clause-inherited
unfolding layout_above
returns-clause-inherited c =
    c.visible_above.ensures
    ∙ ap (λ b. if b then (above_or_nothing (option_map (λ l. l.now) c.layout_above-up.result)).visible else [])
    (c.at_home-home.ensures ∙ ap (λ o. at_home c.args.lineage.now o c.args.c) c.parent-above.ensures.is)
    ∙ ap (λ o. if at_home c.args.lineage.now (parent_of c.args.lineage.now c.args.c) c.args.c then (above_or_nothing o).visible else [])
    (c.layout_above-up.ensures ∙ ap (option_map (class_layout c.args.lineage.now c.args.classes.now)) c.parent-above.ensures.is)

pub returns-clause-list : goal.returns-clause-list
returns-clause-list c =
    c.as_slice.ensures ∙ visible_is c.args.lineage.now c.args.classes.now c.args.all.now c.args.c c.index-all-c.result c.requires.layouts c.requires.class
