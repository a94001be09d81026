-- The answer tells the first condition that is broken.
use Rattle.std.proofs.Common.{◌≡◌, ℕ, List, [], ◌∷◌, Result, Ok, Err, sym, ◌∙◌, arith}
use Rattle.cap_package.specs.PackageRecord.{PackageRecord}
use Rattle.jc_resolve.specs.declared.fault.LinkFault.{LinkFault}
use Rattle.jc_resolve.specs.declared.fault.LinkEnd.{LinkEnd}
use Rattle.jc_resolve.specs.declared.fault.LinkEnd.TheVariants.{Fault, Memory}
use Rattle.jc_resolve.specs.Fault.{link_place}
use Rattle.std.specs.Option.{option_to_list}
use Rattle.first_fault.specs.First.{at_fault}
use Rattle.first_fault.specs.Least.{◌>>=◌}
use Rattle.jc_resolve.specs.Conditions.{packages_fault, classes_fault, methods_fault, no_package_fault, named_in, import_tokens}
use Rattle.jc_resolve.specs.Conditions.{conditions}
use Rattle.jc_resolve.specs.Due.{IsDue}
use Rattle.jc_resolve.specs.Names.{NamesRecord, named, indexable, checked, names_of, TellsNames}
use Rattle.first_fault.proofs.FirstTold.{IsTold, things-told, one-told, groups-told, refused-first, accepted-empty}

-- the conditions that come before class references
abbrev before_references : List PackageRecord → List (List LinkFault)
before_references ps =
    option_to_list (packages_fault ps)
    ∷ option_to_list (classes_fault ps)
    ∷ option_to_list (methods_fault ps)
    ∷ at_fault (no_package_fault ps) (named_in import_tokens ps)
    ∷ []

indexable-told : (ps : List PackageRecord) → IsTold link_place (indexable ps) (before_references ps)
unfolding indexable
indexable-told ps = grind (arith, one-told, things-told)

checked-told : (ps : List PackageRecord) → IsTold link_place (checked ps) (conditions ps)
unfolding checked
checked-told ps = grind (arith, groups-told, indexable-told, things-told)

refused_by : (r : Result (Unit {0}) LinkFault) (n : NamesRecord) (f : LinkFault) → (r >>= λ done. Ok n) ≡ Err f → r ≡ Err f
refused_by x n f h = grind (arith)

pub names_told : (ps : List PackageRecord) (roles : List ℕ) (answer : Result NamesRecord LinkEnd) → IsDue (names_of ps roles) answer
    → TellsNames ps answer
unfolding names_of
names_told ps roles (Ok m) h = accepted-empty link_place (conditions ps) (sym (checked-told ps).same ∙ (grind (arith)))
names_told ps roles (Err (Fault f)) h = refused-first link_place (conditions ps) f (sym (checked-told ps).same ∙ refused_by (checked ps) (named ps roles) f h)
names_told ps roles (Err Memory) h = tt
