use Rattle.std.proofs.Common.{◌≡◌, ◌+◌, ◌++◌, length, map}
use Rattle.std.specs.Prelude.{All}
use Rattle.first_fault.specs.Least.{least_from}
use Rattle.cap_package.specs.PackagesLeft.{packages_left}
use Rattle.jc_resolve.specs.Conditions.{no_class_fault, named_after, named_in}
use Rattle.jc_resolve.specs.Fault.{link_place}
use Rattle.jc_resolve.specs.LookedUp.{references_for_methods}
use Rattle.jc_resolve.specs.Named.{IsAgreed}
use Rattle.jc_resolve.specs.NamedMethods.{HasFewHandlers, named_method}
use Rattle.jc_resolve.specs.Numbering.{methods_after, numbered_methods}
use Rattle.jc_resolve.proofs.method_records.methods_after.Given as goal

-- of all packages it is known, once it is of those that are left
abbrev pub invariant-packages : goal.invariant-packages
invariant-packages l = record {
  named : l.methods.items ++ map (named_method l.index l.roles) (methods_after l.k (packages_left l.package-iterator))
      ≡ map (named_method l.index l.roles) (numbered_methods l.packages);
  agreed : All IsAgreed (packages_left l.package-iterator) → All IsAgreed l.packages;
  few : All HasFewHandlers (packages_left l.package-iterator) → All HasFewHandlers l.packages;
  least : least_from link_place l.least (no_class_fault l.index) (named_after references_for_methods l.k (packages_left l.package-iterator))
      ≡ least_from link_place l.initial.least (no_class_fault l.index) (named_in references_for_methods l.packages);
  count : l.k + length (packages_left l.package-iterator) ≡ length l.packages;
}
