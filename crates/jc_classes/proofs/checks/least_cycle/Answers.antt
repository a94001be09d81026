-- What rests on settled classes needs no climb, and is settled itself.
use Rattle.std.proofs.Common.{◌≡◌, ◌++◌, ◌∷◌, [], Some, ◌∙◌, sym, ap, subst, arith}
use Rattle.std.specs.Prelude.{slice_get}
use Rattle.std.proofs.lemmas.Grind.{common_steps}
use Rattle.std.proofs.lemmas.Option.{slice_get-get_or}
use Rattle.jc_classes.specs.Marks.{rests_on}
use Rattle.jc_classes.proofs.Settled.{AreSettled, rests-acyclic, settled-more}
use Rattle.jc_classes.proofs.checks.least_cycle.Goals as goal

pub cycle_fault-requires-clause-rests : goal.cycle_fault-requires-clause-rests
cycle_fault-requires-clause-rests c =
    let there = slice_get-get_or c.as_slice-class-items.result.now c.classes.c c.class-item.result c.classes-test.true ∙ ap Some (sym c.class-item.is) in
    λ h. rests-acyclic c.args.classes.now c.classes.settled.items c.classes.c c.class-item.result c.classes.invariant.settled c.classes.invariant.count
    (ap (λ xs. slice_get xs c.classes.c) (sym c.as_slice-class-items.ensures) ∙ there)
    (ap (λ ss. rests_on ss c.class-item.result) (sym c.as_slice.ensures.value) ∙ sym c.rests_on-rests.ensures ∙ h)

pub classes-preserved : goal.classes-preserved
classes-preserved c =
    let there = slice_get-get_or c.as_slice-class-items.result.now c.classes.c c.class-item.result c.classes-test.true ∙ ap Some (sym c.class-item.is) in
    let settled = settled-more c.args.classes.now c.classes.settled.items c.classes.c c.class-item.result c.classes.invariant.settled c.classes.invariant.count
    (ap (λ xs. slice_get xs c.classes.c) (sym c.as_slice-class-items.ensures) ∙ there) in
    let rests : c.rests_on-rests.result ≡ rests_on c.classes.settled.items c.class-item.result = c.rests_on-rests.ensures
    ∙ ap (λ ss. rests_on ss c.class-item.result) c.as_slice.ensures.value in
    record {
      so_far = grind (arith, common_steps);
      count = grind (arith, common_steps);
      settled = subst (AreSettled c.args.classes.now) (sym (c.in_ok-push.ensures.items ∙ ap (λ b. c.classes.settled.items ++ b ∷ []) rests)) settled;
    }
