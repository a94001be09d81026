use Rattle.std.proofs.Common.{rules, ◌≡◌, ◌+◌, ◌++◌, [], ◌∷◌, List, length, map, ap, sym, refl, ◌∙◌, append_assoc, Option, arith}
use Rattle.std.proofs.lemmas.List.Sums.{sum_by-cons}
use Rattle.cap_class.specs.ClassFormat.{Class, is_interface}
use Rattle.cap_package.specs.PackageRecord.{PackageRecord}
use Rattle.cap_package.specs.PackagesLeft.{packages_left}
use Rattle.jc_resolve.specs.declared.fault.RecordPlace.{RecordPlace}
use Rattle.jc_resolve.specs.Counts.{class_total}
use Rattle.jc_resolve.specs.Numbers.{Numbered, with_all, with_next, interface_flags, class_spots, spot_of_class}
use Rattle.jc_resolve.proofs.class_index.number_all.Goals as goal

-- what is numbered one list after the other
with_both : (t : Numbered) (xs ys : List (Option RecordPlace)) → with_all t (xs ++ ys) ≡ with_all (with_all t xs) ys
with_both t [] ys = refl
with_both t (x ∷ xs) ys = with_both (with_next t x) xs ys

pub packages-preserved : goal.packages-preserved
packages-preserved c =
    let others = packages_left c.next.new.self in
    let p = c.in-Some.package.now in
    let k = c.packages.k in
    let is : packages_left c.packages.package-iterator ≡ p ∷ others = c.in-Some.ensures.steps in
    let new : c.number_package.new.numbers ≡ with_all c.packages.numbers (map (spot_of_class k) p.classes) = search rules in
    let items = c.packages.interfaces.items in
    let own = map (λ (x : Class). is_interface x.flags) p.classes in
    let flags : c.number_package.new.interfaces.items ≡ items ++ own = search rules in
    let next : c.number_package.new.numbers.next ≡ c.packages.numbers.next + length p.classes = search rules in
    let total : class_total (packages_left c.packages.package-iterator) ≡ length p.classes + class_total others = ap class_total is
    ∙ sum_by-cons (λ (q : PackageRecord). length q.classes) p others in (
      ap (λ t. with_all t (class_spots (k + 1) others)) new
          ∙ sym (with_both c.packages.numbers (map (spot_of_class k) p.classes) (class_spots (k + 1) others))
          ∙ ap (λ ps. with_all c.packages.numbers (class_spots k ps)) (sym is)
          ∙ c.packages.invariant.0,
      ap (λ xs. xs ++ interface_flags others) flags
          ∙ append_assoc items own (interface_flags others)
          ∙ ap (λ ps. items ++ interface_flags ps) (sym is)
          ∙ c.packages.invariant.1,
      omega (arith, next, total, c.packages.invariant.2),
      omega (arith, ap length is, c.packages.invariant.3),
    )
