-- The static fields and the initial arrays are the same.
use Rattle.std.proofs.Common.{arith}
use Rattle.std.proofs.Common.{◌≡◌, ◌+◌, ℕ, List, [], ◌∷◌, length, map, filter_map, sum_by, Option, refl, ap, ◌∙◌}
use Rattle.cap_desc.specs.declared.type_list.TypeItem.{TypeItem}
use Rattle.cap_desc.specs.DescriptorFormat.{FieldDescriptor}
use Rattle.cap_method.specs.StaticFormat.{Statics}
use Rattle.cap_package.specs.Descriptions.{Description}
use Rattle.cap_package.specs.PackageRecord.{PackageRecord, names_interface, fields, initial_arrays}
use Rattle.cap_package.specs.StaticChecks.{place_by, place_in}
use Rattle.cap_package.specs.StaticPlaces.{static_places}
use Rattle.jc_base.specs.declared.ty.Ty.{Ty}
use Rattle.jc_decode.specs.declared.symbols.Laid.{Laid}
use Rattle.jc_resolve.specs.WorldTypes.{type_of}
use Rattle.jc_link.specs.Arrays.{array_record, array_records}
use Rattle.jc_link.specs.Statics.{StaticSite, sites_after, cells_at, static_cells, records_from, static_records}
use Rattle.law_package.specs.Rewritten.{HasSameDescription, IsRewritten}
use Rattle.law_package.proofs.Lists.{faults_same}
use Rattle.law_package.proofs.Bare.{alike, same_field}
use Rattle.law_relink.specs.Last.{and_last}
use Rattle.law_relink.proofs.Lists.{flat_last}
use Rattle.law_relink.proofs.Classes.{type_same}

place_same : (set : _) (d e : Description) (f : FieldDescriptor) → HasSameDescription set d e → place_in e f ≡ place_in d f
unfolding place_in
place_same set d e f h = ap (place_by f) (same_field set d e f.ty h)

places_same : (p q : PackageRecord) (laid : List (Option Laid)) → IsRewritten p laid q → static_places q ≡ static_places p
places_same p q laid r =
    let set = names_interface p.classes in
    ap (filter_map (place_in q.description)) (alike set p.description.items.classes q.description.items.classes
    r.description.classes).fields
    ∙ faults_same (place_in q.description) (place_in p.description) (fields p)
    (λ f. place_same set p.description q.description f r.description)

-- ---- arrays

pub arrays_same : (ps : List PackageRecord) (p q : PackageRecord) (laid : List (Option Laid)) → IsRewritten p laid q
    → array_records (and_last ps q) ≡ array_records (and_last ps p)
arrays_same ps p q laid r = ap (map array_record) (flat_last initial_arrays ps p q (ap (λ (s : Statics). s.arrays) r.statics))

-- ---- fields

pub cells_same : (ps : List PackageRecord) (p q : PackageRecord) (laid : List (Option Laid)) → IsRewritten p laid q
    → static_cells (and_last ps q) ≡ static_cells (and_last ps p)
cells_same ps p q laid r = ap (sum_by cells_at) (flat_last static_places ps p q (places_same p q laid r))

sites_same : (home first : ℕ) (ps : List PackageRecord) (p q : PackageRecord) (laid : List (Option Laid)) → IsRewritten p laid q
    → sites_after home first (and_last ps q) ≡ sites_after home first (and_last ps p)
sites_same home first [] p q laid r = grind (arith, map, places_same)
sites_same home first (x ∷ ps) p q laid r = grind (arith, sites_same (home + 1) (first + length x.statics.arrays) ps p q laid r, map)

records_same : (now old : ℕ → TypeItem → Ty) (slot : ℕ) (ss : List StaticSite) → ((k : ℕ) (t : TypeItem) → now k t ≡ old k t)
    → records_from now slot ss ≡ records_from old slot ss
records_same now old slot [] h = refl
records_same now old slot (s ∷ ss) h = grind (arith, records_same now old (slot + cells_at s.place) ss h)

pub statics_same : (ps : List PackageRecord) (p q : PackageRecord) (laid : List (Option Laid)) (object : ℕ) → IsRewritten p laid q
    → static_records (type_of (and_last ps q) object) (and_last ps q)
    ≡ static_records (type_of (and_last ps p) object) (and_last ps p)
statics_same ps p q laid object r = grind (arith, sites_same, records_same, type_same)
