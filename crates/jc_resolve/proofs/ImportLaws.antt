-- What meets an import is read in a table.
use Rattle.std.proofs.Common.{◌≡◌, ℕ, zero, suc, ◌+◌, ◌<◌, List, [], ◌∷◌, map, take, Option, IfSome, slice_get, option_map}
use Rattle.std.proofs.Common.{option_and_then, refl, ap, ◌∙◌, arith}
use Rattle.std.proofs.lemmas.Option.{slice_get-map}
use Rattle.std.proofs.lemmas.List.{length-take}
use Rattle.cap_frame.specs.PackageFormat.{Package}
use Rattle.cap_package.specs.PackageRecord.{PackageRecord}
use Rattle.jc_resolve.specs.References.{import_of, met_by}
use Rattle.jc_resolve.proofs.NumberLaws.{position_below}
use Rattle.jc_resolve.specs.Imports.{first_meeting, imports_after, imports_met, met_among}

abbrev row_of : List PackageRecord → ℕ → PackageRecord → List (Option ℕ)
row_of all k p = map (first_meeting (take k all)) p.imports

-- the row of a package is what meets its imports
row_at : (all : List PackageRecord) (k : ℕ) (ps : List PackageRecord) (j n : ℕ) → k + j ≡ n → slice_get (imports_after all k ps) j
    ≡ option_map (row_of all n) (slice_get ps j)
row_at all k [] j n e = refl
row_at all k (p ∷ ps) zero n e = grind (arith)
row_at all k (p ∷ ps) (suc j) n e = row_at all (k + 1) ps j n (omega (arith, e))

abbrev joined : {X : Type 0} → Option (Option X) → Option X
joined o = option_and_then (λ one. one) o

flat : {X : Type 0} (f : X → Option ℕ) (o : Option X) → joined (option_map f o) ≡ option_and_then f o
flat f y = grind (arith)

among_by : (all : List PackageRecord) (k token : ℕ) (o : Option PackageRecord)
    → option_and_then (λ (row : List (Option ℕ)). joined (slice_get row token)) (option_map (row_of all k) o)
    ≡ option_and_then (first_meeting (take k all)) (option_and_then (λ (p : PackageRecord). slice_get p.imports token) o)
among_by all k token u = grind (arith, slice_get-map, slice_get)

-- what the table says of an import is what meets it
pub met_there : (ps : List PackageRecord) (met : List (List (Option ℕ))) (k token : ℕ) → met ≡ imports_met ps
    → met_among met k token ≡ met_by ps k token
unfolding met_by
met_there ps met k token h =
    ap (λ (m : List (List (Option ℕ))). met_among m k token) h
    ∙ ap (option_and_then (λ (row : List (Option ℕ)). joined (slice_get row token))) (row_at ps 0 ps k k (omega arith))
    ∙ among_by ps k token (slice_get ps k)

earlier_by : (ps : List PackageRecord) (k : ℕ) (asked : Option Package) (o : Option ℕ) → o ≡ option_and_then (first_meeting (take k ps)) asked
    → IfSome o (λ n. n < k)
earlier_by ps k asked u h = grind (arith, position_below, length-take)

-- what meets an import comes before
pub met_before : (ps : List PackageRecord) (k token : ℕ) (o : Option ℕ) → o ≡ met_by ps k token → IfSome o (λ n. n < k)
unfolding met_by
met_before ps k token o h = earlier_by ps k (import_of ps k token) o h
