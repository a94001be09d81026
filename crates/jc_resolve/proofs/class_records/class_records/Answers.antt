use Rattle.std.proofs.Common.{◌≡◌, ◌+◌, List, [], ◌∷◌, ◌++◌, length, map, ap, sym, ◌∙◌, arith}
use Rattle.std.specs.Prelude.{slice_index}
use Rattle.first_fault.specs.Least.{least_from}
use Rattle.cap_package.specs.PackageRecord.{PackageRecord}
use Rattle.cap_package.specs.PackagesLeft.{packages_left}
use Rattle.jc_resolve.specs.Conditions.{references_of_classes, reference_fault, no_class_fault, named_after}
use Rattle.jc_resolve.specs.Fault.{link_place}
use Rattle.jc_resolve.specs.LookedUp.{references_for_classes}
use Rattle.jc_resolve.specs.NamedClasses.{named_class}
use Rattle.jc_resolve.specs.Numbering.{classes_after}
use Rattle.jc_resolve.specs.TypedFields.{fields_after}
use Rattle.jc_resolve.proofs.NamedFaults.{least_after, least_for_classes}
use Rattle.jc_resolve.proofs.Steps.{packages_step}
use Rattle.jc_resolve.proofs.TypedFields.{fields_step}
use Rattle.jc_resolve.proofs.class_records.class_records.Goals as goal

pub packages-preserved : goal.packages-preserved
packages-preserved c =
    let index = c.args.index.now in
    let object = slice_index c.args.roles 0 in
    let fault = no_class_fault index in
    let f = named_class index object in
    let k = c.packages.k in
    let p = c.in-Some.package.now in
    let others = packages_left c.next.new.self in
    let is : packages_left c.packages.package-iterator ≡ p ∷ others = c.in-Some.ensures.steps in
    let named = c.packages.named.items in
    let fields = c.packages.fields.items in
    let least = c.packages.least in (
      ap (λ l. l ++ map f (classes_after (k + 1) others)) c.in_ok-push_classes.ensures.is
          ∙ sym (packages_step f named k p others)
          ∙ ap (λ (ps : List PackageRecord). named ++ map f (classes_after k ps)) (sym is)
          ∙ c.packages.invariant.0,
      c.in_ok-push_classes.ensures.sized,
      omega (arith, ap length is, c.packages.invariant.2),
      ap (λ l. l ++ fields_after index object (k + 1) others) (c.in_ok-push.ensures.items ∙ ap (λ x. fields ++ x ∷ []) c.in_ok-of_package.ensures.is)
          ∙ sym (fields_step index object k p others fields)
          ∙ ap (λ (ps : List PackageRecord). fields ++ fields_after index object k ps) (sym is)
          ∙ c.packages.invariant.3,
      ap (λ o. least_from link_place o fault (named_after references_for_classes (k + 1) others))
          (c.in_ok-push_classes.ensures.least
          ∙ ap (λ o. least_from link_place o (reference_fault index k) (references_of_classes p)) c.in_ok-of_package.ensures.least
          ∙ sym (least_for_classes index k p least))
          ∙ sym (least_after fault references_for_classes k p others least)
          ∙ ap (λ (ps : List PackageRecord). least_from link_place least fault (named_after references_for_classes k ps)) (sym is)
          ∙ c.packages.invariant.4,
    )
