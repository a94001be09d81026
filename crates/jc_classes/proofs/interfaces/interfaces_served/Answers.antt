use Rattle.std.proofs.Common.{◌≡◌, ◌<◌, length, sym, ap, ◌∙◌, arith}
use Rattle.jc_resolve.specs.Fault.{link_place}
use Rattle.first_fault.specs.Least.{least_from}
use Rattle.jc_classes.specs.Layout.{public_entries}
use Rattle.jc_classes.specs.TableConditions.{interface_type_fault, implementations_in}
use Rattle.jc_classes.proofs.Folds.{public_at, least_next}
use Rattle.jc_classes.proofs.Implementing.{implementations_are}
use Rattle.jc_classes.proofs.interfaces.interfaces_served.Goals as goal

pub classes-preserved : goal.classes-preserved
classes-preserved c =
    let low : c.classes.c < length c.args.classes.now = omega (arith, c.len-c-end.ensures, c.classes-test.true) in
    let public : c.as_slice-public.result.now ≡ public_entries c.args.lineage.now c.args.classes.now c.classes.c = c.as_slice-public.ensures
    ∙ ap (λ l. l.public) (sym c.index-all-c.is) ∙ public_at c.args.lineage.now c.args.classes.now c.args.all.now c.classes.c c.index-all-c.result
    c.requires.layouts low c.index-all-c.is in
    c.unserved_by-least.ensures
    ∙ ap (least_from link_place c.classes.least (interface_type_fault c.args.methods.now))
    (implementations_are c.args.lineage.now c.args.classes.now c.classes.c c.as_slice-public.result.now c.at.result.now public c.at.ensures)
    ∙ least_next (interface_type_fault c.args.methods.now) (implementations_in c.args.lineage.now c.args.classes.now) c.classes.c c.classes.least
    c.classes.invariant
