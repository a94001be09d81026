-- The packages that meet the imports of packages, by package and token.
use Rattle.std.specs.Prelude.{ℕ, ◌+◌, List, [], ◌∷◌, map, take, Option, position, slice_get, option_and_then}
use Rattle.cap_frame.specs.PackageFormat.{Package}
use Rattle.cap_package.specs.PackageRecord.{PackageRecord}
use Rattle.jc_resolve.specs.References.{meets_import}

-- the first of some packages that meets an import
abbrev pub first_meeting : List PackageRecord → Package → Option ℕ
first_meeting earlier asked = position (meets_import asked) earlier

-- what meets the imports of packages, from a package's number on: the first of the packages before
abbrev pub imports_after : List PackageRecord → ℕ → List PackageRecord → List (List (Option ℕ))
imports_after all k [] = []
imports_after all k (p ∷ ps) = map (first_meeting (take k all)) p.imports ∷ imports_after all (k + 1) ps

abbrev pub imports_met : List PackageRecord → List (List (Option ℕ))
imports_met ps = imports_after ps 0 ps

-- what meets the import of a package with a token
abbrev pub met_among : List (List (Option ℕ)) → ℕ → ℕ → Option ℕ
met_among met k token =
    option_and_then (λ (row : List (Option ℕ)). option_and_then (λ one. one) (slice_get row token)) (slice_get met k)
