-- The conditions under which packages name classes and methods, by name.
use Rattle.std.proofs.Common.{◌≡◌, List, [], arith}
use Rattle.std.specs.Option.{option_to_list}
use Rattle.cap_package.specs.PackageRecord.{PackageRecord}
use Rattle.first_fault.specs.First.{at_fault, AllEmpty}
use Rattle.jc_resolve.specs.Conditions.{packages_fault, classes_fault, methods_fault, no_package_fault, no_class_fault, named_in}
use Rattle.jc_resolve.specs.Conditions.{import_tokens, class_references, conditions}

-- nothing is at fault under any condition
pub record NamesFaultless (ps : List PackageRecord) : Type 0 where
  pub packages : option_to_list (packages_fault ps) ≡ []
  pub classes : option_to_list (classes_fault ps) ≡ []
  pub methods : option_to_list (methods_fault ps) ≡ []
  pub imports : at_fault (no_package_fault ps) (named_in import_tokens ps) ≡ []
  pub references : at_fault (no_class_fault ps) (named_in class_references ps) ≡ []

pub names_faultless : (ps : List PackageRecord) → AllEmpty (conditions ps) → NamesFaultless ps
names_faultless ps (packages, (classes, (methods, (imports, (references, done))))) = grind (arith)
