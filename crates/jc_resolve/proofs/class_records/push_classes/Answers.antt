use Rattle.std.proofs.Common.{rules, ◌≡◌, arith, [], ◌∷◌, ◌++◌, All, ap, sym, subst, append_assoc, ◌∙◌}
use Rattle.std.proofs.lemmas.Grind.{common_steps}
use Rattle.std.proofs.lemmas.List.Elements.{All-push}
use Rattle.cap_class.specs.ClassPart.{class_seen, classes_left}
use Rattle.jc_resolve.specs.Described.{AreDescribedOnce}
use Rattle.jc_resolve.specs.Homes.{records_at, named_class_at, classes_at}
use Rattle.jc_resolve.specs.Named.{IsSized}
use Rattle.jc_resolve.proofs.Describing.{described_once}
use Rattle.jc_resolve.proofs.NamedFaults.{least_classes}
use Rattle.jc_resolve.proofs.class_records.push_classes.Goals as goal

pub classes-init : goal.classes-init
classes-init c =
    let all : classes_left c.into_iter-class-iterator.result ≡ c.args.home.of_package.now.classes = search rules in (
      grind (arith, common_steps),
      c.requires.sized,
      subst (AreDescribedOnce (records_at c.args.home)) (sym all)
          (described_once c.args.home.of_package.now c.parts-parts.ensures.agree),
      grind (arith, common_steps),
    )

pub classes-preserved : goal.classes-preserved
classes-preserved c =
    let f = classes_at c.args.home in
    let items = c.classes.named.items in (
      ap (λ l. l ++ f (classes_left c.next.new.self)) (c.in_ok-push.ensures.items ∙ ap (λ k. items ++ k ∷ []) c.in_ok-named_class.ensures.is)
          ∙ append_assoc items (named_class_at c.args.home (class_seen c.in-Some.class) ∷ []) (f (classes_left c.next.new.self))
          ∙ ap (λ l. items ++ f l) (sym c.in-Some.ensures.steps)
          ∙ c.classes.invariant.0,
      subst (λ l. All IsSized l) (sym c.in_ok-push.ensures.items)
          (All-push IsSized items c.in_ok-named_class.field-0 c.classes.invariant.1 c.in_ok-named_class.ensures.sized),
      (subst (AreDescribedOnce (records_at c.args.home)) c.in-Some.ensures.steps c.classes.invariant.2).1,
      grind (arith, common_steps, least_classes),
    )
