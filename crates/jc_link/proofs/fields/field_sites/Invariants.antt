use Rattle.std.proofs.Common.{◌≡◌, ◌+◌, [], drop, length}
use Rattle.cap_package.specs.PackagesLeft.{packages_left}
use Rattle.jc_resolve.specs.Counts.{class_total}
use Rattle.jc_link.specs.Sites.{all_entered}
use Rattle.jc_link.specs.Fields.{sites_after, field_sites, AllFieldsFitAfter}
use Rattle.jc_link.proofs.fields.field_sites.Given as goal

abbrev pub invariant-packages : goal.invariant-packages
invariant-packages l = record {
  entered : all_entered l.sites (sites_after l.names.packages l.classes l.first l.k (packages_left l.package-iterator))
      ≡ all_entered [] (field_sites l.names.packages l.classes);
  known : l.first + class_total (packages_left l.package-iterator) ≡ class_total l.names.packages;
  room : AllFieldsFitAfter l.names.packages l.classes l.first l.k (packages_left l.package-iterator);
  left : packages_left l.package-iterator ≡ drop l.k l.names.packages;
  count : l.k + length (packages_left l.package-iterator) ≡ length l.names.packages;
}
