use Rattle.std.proofs.Common.{◌≡◌, [], ◌∷◌, List, length, ap, sym, subst, arith}
use Rattle.std.specs.Prelude.{All}
use Rattle.std.proofs.lemmas.Grind.{common_steps}
use Rattle.std.proofs.lemmas.List.Elements.{All-cons}
use Rattle.cap_package.specs.PackageRecord.{PackageRecord}
use Rattle.cap_package.specs.PackagesLeft.{packages_left}
use Rattle.jc_resolve.specs.Named.{IsAgreed}
use Rattle.jc_resolve.specs.NamedMethods.{HasFewHandlers}
use Rattle.jc_resolve.proofs.NamedFaults.{least_after}
use Rattle.jc_resolve.proofs.Steps.{methods_step}
use Rattle.jc_resolve.proofs.method_records.methods_after.Goals as goal

-- of a package and those after it, where it is of the package and once it is of the others
all_with : (P : PackageRecord → Type 0) (p : PackageRecord) (left others : List PackageRecord) → left ≡ p ∷ others → P p → All P others
    → All P left
all_with P p left others is here all = subst (λ (ps : List PackageRecord). All P ps) (sym is) (All-cons P p others here all)

none_left : (P : PackageRecord → Type 0) (left : List PackageRecord) → left ≡ [] → All P left
none_left P left is = subst (λ (ps : List PackageRecord). All P ps) (sym is) (λ k d h. absurd (omega (arith, h)))

pub packages-init : goal.packages-init
packages-init c =
    let is = c.iter-package-items.ensures in
    record {
      named = grind (arith, common_steps);
      agreed = λ all. subst (λ (ps : List PackageRecord). All IsAgreed ps) is all;
      few = λ all. subst (λ (ps : List PackageRecord). All HasFewHandlers ps) is all;
      least = grind (arith, common_steps);
      count = omega (arith, ap length is);
    }

pub packages-preserved : goal.packages-preserved
packages-preserved c =
    let left = packages_left c.packages.package-iterator in
    let others = packages_left c.next.new.self in
    let p = c.in-Some.package.now in
    let is : left ≡ p ∷ others = c.in-Some.ensures.steps in
    record {
      named = grind (arith, common_steps, methods_step);
      agreed = λ all. c.packages.invariant.agreed (all_with IsAgreed p left others is c.in_ok-push_package.ensures.agreed all);
      few = λ all. c.packages.invariant.few (all_with HasFewHandlers p left others is c.in_ok-push_package.ensures.few all);
      least = grind (arith, common_steps, least_after);
      count = omega (arith, ap length is, c.packages.invariant.count);
    }

pub returns-clause-agreed : goal.returns-clause-agreed
returns-clause-agreed c = c.packages.invariant.agreed (none_left IsAgreed (packages_left c.packages.package-iterator) c.in-None.ensures.steps.0)
