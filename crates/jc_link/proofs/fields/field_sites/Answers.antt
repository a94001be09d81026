use Rattle.std.proofs.Common.{rules, List, length, ap, sym, ◌∙◌, arith}
use Rattle.std.proofs.lemmas.List.Sums.{sum_by-cons}
use Rattle.cap_class.specs.ClassFormat.{Class}
use Rattle.cap_package.specs.PackageRecord.{PackageRecord}
use Rattle.cap_package.specs.PackagesLeft.{packages_left}
use Rattle.jc_resolve.specs.Counts.{class_total}
use Rattle.jc_resolve.proofs.Parts.{first_left, others_left}
use Rattle.jc_link.proofs.Rooms.{entered_both}
use Rattle.jc_link.proofs.fields.field_sites.Goals as goal

pub enter_package-requires-clause-at : goal.enter_package-requires-clause-at
enter_package-requires-clause-at c =
    first_left c.args.names.now.packages c.packages.k c.in-Some.package.now (packages_left c.next.new.self)
    (sym c.packages.invariant.left ∙ c.in-Some.ensures.steps)

pub packages-preserved : goal.packages-preserved
packages-preserved c = record {
  entered = search (rules, entered_both);
  known =
      omega (
        arith,
        c.count-first.ensures,
        ap (λ (cs : List Class). length cs) c.classes.ensures.items,
        ap class_total c.in-Some.ensures.steps,
        sum_by-cons (λ (p : PackageRecord). length p.classes) c.in-Some.package.now (packages_left c.next.new.self),
        c.packages.invariant.known,
      );
  room = search rules;
  left =
      sym
      (others_left c.args.names.now.packages c.packages.k c.in-Some.package.now (packages_left c.next.new.self)
      (sym c.packages.invariant.left ∙ c.in-Some.ensures.steps));
  count = omega (arith, ap length c.in-Some.ensures.steps, c.packages.invariant.count);
}
