-- How many static fields and initial arrays a package can have, and sums over packages.
use Rattle.std.proofs.Common.{◌≡◌, ℕ, ◌+◌, ◌*◌, ◌≤◌, Bool, cond, leb, List, [], ◌∷◌, length, length-append, map, drop}
use Rattle.std.proofs.Common.{Option, Some, ap, ◌∙◌, arith}
use Rattle.std.specs.Prelude.{slice_get, flat_map, sum_by}
use Rattle.std.specs.List.{filter_map, cons_option}
use Rattle.std.proofs.lemmas.List.{length-map}
use Rattle.std.proofs.lemmas.List.Sums.{sum_by-cons, sum_by-append}
use Rattle.jc_base.specs.declared.ty.Kind.{Kind}
use Rattle.jc_base.specs.declared.record.ArrayRec.{ArrayRec}
use Rattle.jc_base.specs.Cell.{width}
use Rattle.cap_method.specs.declared.static_part.ArrayInits.{ArrayInits}
use Rattle.cap_method.specs.StaticFormat.{Array}
use Rattle.cap_method.specs.StaticPart.{arrays_left}
use Rattle.cap_package.specs.declared.statics.StaticPlaces.{StaticPlaces}
use Rattle.cap_package.specs.StaticChecks.{ImagePlace}
use Rattle.cap_package.specs.CountChecks.{array_bytes}
use Rattle.cap_package.specs.PackageRecord.{PackageRecord}
use Rattle.cap_package.specs.StaticPlaces.{static_places, places_left}
use Rattle.cap_package.proofs.ArrayBytes.{arrays_short}
use Rattle.jc_resolve.specs.WorldTypes.{kind_of}
use Rattle.jc_resolve.proofs.DescribedFields.{fields_of-few, fields_left-few}
use Rattle.jc_link.specs.Words.{signed}
use Rattle.jc_base.specs.Index.{words_of_bytes}
use Rattle.jc_link.specs.Arrays.{array_record, array_records, initial_cells}
use Rattle.jc_link.specs.Statics.{cells_at, static_cells}
use Rattle.cap_package.proofs.Given.{drop_here}
use Rattle.jc_link.proofs.ArrayLists.{one_package, words_length}

-- ---- cells of static fields

no_more : {X Y : Type 0} (f : X → Option Y) (o : Option Y) (ys : List Y) (n : ℕ) → length ys ≤ n → length (cons_option o ys) ≤ n + 1
no_more f y ys n h = grind (arith)

filtered_few : {X Y : Type 0} (f : X → Option Y) (xs : List X) → length (filter_map f xs) ≤ length xs
filtered_few f [] = omega arith
filtered_few f (x ∷ xs) = omega (arith, no_more f (f x) (filter_map f xs) (length xs) (filtered_few f xs))

width_few : (k : Kind) → width k ≤ 2
width_few x = grind (arith)

cells_few : (places : List ImagePlace) → sum_by cells_at places ≤ 2 * length places
cells_few [] = omega arith
cells_few (p ∷ places) = omega (arith, sum_by-cons cells_at p places, width_few (kind_of p.ty), cells_few places)

pub places_few : (x : StaticPlaces) → sum_by cells_at (places_left x) ≤ 262140
places_few x = grind (arith, cells_few, filtered_few, length-append, fields_left-few, fields_of-few)

-- ---- cells of initial arrays

words_few : (b : Bool) (bytes : List ℕ) → length (cond b (map signed bytes) (words_of_bytes bytes)) ≤ length bytes
words_few x bytes = grind (arith, length-map, words_length)

cells_below : (arrays : List Array) → initial_cells (map array_record arrays) ≤ array_bytes arrays
cells_below [] = omega arith
cells_below (a ∷ arrays) =
    omega (
      arith,
      sum_by-cons (λ (r : ArrayRec). length r.initial) (array_record a) (map array_record arrays),
      sum_by-cons (λ (b : Array). length b.values) a arrays,
      words_few (leb a.kind 3) a.values,
      cells_below arrays,
    )

pub array_cells_few : (x : ArrayInits) → initial_cells (map array_record (arrays_left x)) ≤ 65535
array_cells_few x = omega (arith, cells_below (arrays_left x), arrays_short x)

-- ---- package after package

pub static_cells_more : (ps : List PackageRecord) (n : ℕ) (p : PackageRecord) → slice_get ps n ≡ Some p
    → static_cells (drop n ps) ≡ sum_by cells_at (static_places p) + static_cells (drop (n + 1) ps)
static_cells_more ps n p e = ap static_cells (drop_here ps n p e) ∙ sum_by-append cells_at (static_places p) (flat_map static_places (drop (n + 1) ps))

pub array_cells_more : (ps : List PackageRecord) (n : ℕ) (p : PackageRecord) → slice_get ps n ≡ Some p → initial_cells (array_records (drop n ps))
    ≡ initial_cells (map array_record p.statics.arrays) + initial_cells (array_records (drop (n + 1) ps))
array_cells_more ps n p e = grind (arith, drop_here, one_package, sum_by-append)

pub array_count_more : (ps : List PackageRecord) (n : ℕ) (p : PackageRecord) → slice_get ps n ≡ Some p → length (array_records (drop n ps))
    ≡ length p.statics.arrays + length (array_records (drop (n + 1) ps))
array_count_more ps n p e = grind (arith, drop_here, one_package, length-append, length-map)
