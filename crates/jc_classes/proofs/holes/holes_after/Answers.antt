use Rattle.std.proofs.Common.{◌≡◌, ◌<◌, ◌∷◌, ◌++◌, refl, sym, ap, subst, ◌∙◌}
use Rattle.std.specs.Prelude.{IfSome}
use Rattle.jc_base.specs.Class.{list_of}
use Rattle.jc_classes.specs.Outline.{chain}
use Rattle.jc_resolve.specs.Fault.{link_place}
use Rattle.first_fault.specs.Least.{least_from}
use Rattle.jc_classes.specs.declared.overlay.ClassLayout.{ClassLayout}
use Rattle.jc_classes.specs.Layout.{class_layout}
use Rattle.jc_classes.specs.Slots.{HasShortLists}
use Rattle.jc_classes.specs.TableConditions.{hole_fault, entries_from}
use Rattle.jc_classes.proofs.Folds.{layout_at, lists_short}
use Rattle.jc_classes.proofs.Growths.{none_open}
use Rattle.jc_classes.proofs.holes.holes_after.Goals as goal

pub holes_of-requires-clause-few : goal.holes_of-requires-clause-few
holes_of-requires-clause-few c =
    subst HasShortLists
    (sym (layout_at c.args.lineage.now c.args.classes.now c.args.all.now c.args.c c.index-all-c.result c.requires.layouts c.requires.class
    c.index-all-c.is))
    (lists_short c.args.lineage.now c.args.classes.now c.args.c c.requires.known.sized)

pub returns-then-grows-clause-is : goal.returns-then-grows-clause-is
returns-then-grows-clause-is c =
    none_open c.args.lineage.now c.args.classes.now c.args.methods.now c.args.c c.args.least
    (c.parent-above.ensures.step ∙ ap (λ o. c.args.c ∷ list_of (chain c.args.lineage.now) o) c.parent-above.ensures.is)
    c.if-is_none.ensures c.requires.before
    (subst (λ o. IfSome o (λ p. p < c.args.c)) c.parent-above.ensures.is (c.if-comes_after.ensures refl)) (c.if-grows.ensures refl)

pub returns-else-is_none-clause-is : goal.returns-else-is_none-clause-is
unfolding class_layout
returns-else-is_none-clause-is c =
    let fault = hole_fault c.args.lineage.now c.args.methods.now in
    let at : c.index-all-c.result ≡ class_layout c.args.lineage.now c.args.classes.now c.args.c = layout_at c.args.lineage.now c.args.classes.now
    c.args.all.now c.args.c c.index-all-c.result c.requires.layouts c.requires.class c.index-all-c.is in
    c.holes_of.ensures.is
    ∙ ap (λ (l : ClassLayout). least_from link_place c.args.least fault (entries_from c.args.c 0 l.public ++ entries_from c.args.c 128 l.visible)) at
