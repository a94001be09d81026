-- Conditions on a package that ask for nothing that other code changes.
use Rattle.std.proofs.Common.{◌≡◌, ℕ, List, [], ◌∷◌, ◌++◌, length, map, sum_by, count_by, filter_map, find, Bool, true, false, cond, Option}
use Rattle.std.proofs.Common.{Some, None, option_map, refl, sym, ap, ◌∙◌, arith}
use Rattle.std.specs.Prelude.{if◌then◌else◌, ◌==◌}
use Rattle.std.proofs.lemmas.List.Sums.{sum_by-cons}
use Rattle.std.proofs.lemmas.List.{length-map}
use Rattle.cap_pool.specs.ExportFormat.{Exported}
use Rattle.cap_class.specs.ClassFormat as of_class
use Rattle.cap_method.specs.StaticFormat.{Statics}
use Rattle.cap_desc.specs.DescriptorFormat.{MethodDescriptor, FieldDescriptor, ClassDescriptor}
use Rattle.cap_desc.specs.Members.{methods_of}
use Rattle.cap_components.specs.Descriptions.{Description}
use Rattle.cap_components.specs.Parts.{Lent}
use Rattle.cap_components.specs.PackageRecord.{PackageRecord, interface_methods, fields, names_interface}
use Rattle.cap_package.specs.Pairs.{pairs}
use Rattle.cap_package.specs.StaticChecks.{place_in, place_by, share_fault, share_by, share_pair}
use Rattle.cap_package.specs.StaticChecks.{image_fault, image_by, array_kinds, filled_fault, filled_by}
use Rattle.cap_package.specs.StaticChecks.{kind_at, image_offset, is_static_at, no_static_fault}
use Rattle.cap_package.specs.NameChecks.{exported_fields, undescribed_fault, undescribed_class_fault, not_own_fault}
use Rattle.cap_package.specs.TypeChecks.{field_type_fault, field_type_by, method_type_fault, method_type_by}
use Rattle.cap_components.specs.declared.fault.CountKind.TheVariants.{Imports, Applets, ImageSize}
use Rattle.cap_components.specs.declared.fault.CountKind.TheVariants.{InitialArrays, ArrayBytes, PoolTypes}
use Rattle.cap_components.specs.declared.fault.CountKind.TheVariants.{ImageSegments}
use Rattle.cap_package.specs.CountChecks.{array_bytes, image_bytes, instance_fault, instance_by}
use Rattle.cap_package.specs.CountChecks.{described_cells, described_cells_by, count_if}
use Rattle.cap_package.specs.HeaderChecks.{is_static}
use Rattle.cap_package.specs.Agreement.{or_none}
use Rattle.cap_package.specs.FirstFault.{disagreements}
use Rattle.cap_package.proofs.StaticsKnown.{both_empty}
use Rattle.cap_renewal.specs.ClassEdits.{renewed_class}
use Rattle.cap_renewal.specs.ExportEdits.{renewed_exported}
use Rattle.jc_decode.specs.declared.symbols.Laid.{Laid}
use Rattle.law_package.specs.Changes.{changes, now_at}
use Rattle.law_package.specs.Rewritten.{bare_method, bare_class, HasSameDescription, IsRewritten}
use Rattle.law_package.proofs.Lists.{append_none, faults_map, faults_same, faults_alike}
use Rattle.cap_package.proofs.Agreed.{Agrees}
use Rattle.law_package.proofs.Bare.{any_map, same_interfaces, in_same, alike, ref_of, same_arguments, same_field}

-- ---- lists

pub map_twice : {X Y Z : Type 0} (h : Y → Z) (g : X → Y) (xs : List X) → map h (map g xs) ≡ map (λ x. h (g x)) xs
map_twice h g [] = refl
map_twice h g (x ∷ xs) = ap (λ zs. h (g x) ∷ zs) (map_twice h g xs)

sum_same : {X : Type 0} (f g : X → ℕ) (xs : List X) → ((x : X) → f x ≡ g x) → sum_by f xs ≡ sum_by g xs
sum_same f g [] h = refl
sum_same f g (x ∷ xs) h = grind (arith, sum_by-cons, sum_same f g xs h)

pub sum_map : {X Y : Type 0} (f : Y → ℕ) (g : X → Y) (xs : List X) → sum_by f (map g xs) ≡ sum_by (λ x. f (g x)) xs
sum_map f g [] = refl
sum_map f g (x ∷ xs) =
    let a = sum_by-cons f (g x) (map g xs) in
    let b = sum_by-cons (λ y. f (g y)) x xs in
    let r = sum_map f g xs in
    omega arith

find_map : {X Y : Type 0} (p : Y → Bool) (g : X → Y) (xs : List X) → find p (map g xs) ≡ option_map g (find (λ x. p (g x)) xs)
find_map p g [] = refl
find_map p g (x ∷ xs) = by (p (g x)) (find_map p g xs)
  where
    by : (b : Bool) → find p (map g xs) ≡ option_map g (find (λ y. p (g y)) xs) → cond b (Some (g x)) (find p (map g xs))
        ≡ option_map g (cond b (Some x) (find (λ y. p (g y)) xs))
    by true e = refl
    by false e = e

-- ---- numbers that two components tell

pub record HasSameNumbers (q : PackageRecord) : Type 0 where
  pub imports : disagreements Imports q.directory.import_count (length q.imports) ≡ []
  pub applets : disagreements Applets q.directory.applet_count (count_if q.applets) ≡ []
  pub image : disagreements ImageSize q.directory.image_size q.statics.image_size ≡ []
  pub arrays : disagreements InitialArrays q.directory.array_init_count (length q.statics.arrays) ≡ []
  pub array_sizes : disagreements ArrayBytes q.directory.array_init_size (array_bytes q.statics.arrays) ≡ []
  pub pool : disagreements PoolTypes (length q.description.items.pool_types) (length q.pool) ≡ []
  pub image_sum : disagreements ImageSegments q.statics.image_size (image_bytes q.statics) ≡ []

pub same_numbers : (parts : List Lent) (p q : PackageRecord) (laid : List (Option Laid)) → Agrees parts p → IsRewritten p laid q → HasSameNumbers q
same_numbers parts p q laid a r = grind (arith, length-map)

-- ---- instance sizes

same_cells : (set : ℕ → Bool) (d e : Description) (f : FieldDescriptor) → HasSameDescription set d e → described_cells e f ≡ described_cells d f
unfolding described_cells
same_cells set d e f h = ap (λ t. if is_static f.flags then 0 else described_cells_by t) (same_field set d e f.ty h)

instance_same : (set : ℕ → Bool) (f : ℕ → ℕ) (d e : Description) (c : ClassDescriptor) (o : Option of_class.Class) → HasSameDescription set d e
    → instance_by e c (option_map (renewed_class f) o) ≡ instance_by d c o
instance_same set f d e c w h = grind (arith, sum_same, same_cells)

instances_same : (set : ℕ → Bool) (f : ℕ → ℕ) (classes : List of_class.Class) (d e : Description) (c : ClassDescriptor)
    → HasSameDescription set d e → instance_fault (map (renewed_class f) classes) e c ≡ instance_fault classes d c
unfolding instance_fault
instances_same set f classes d e c h = grind (arith, find_map, instance_same, find)

instance_bare : (set : ℕ → Bool) (classes : List of_class.Class) (d : Description) (c : ClassDescriptor)
    → instance_fault classes d c ≡ instance_fault classes d (bare_class set c)
unfolding instance_fault
instance_bare set classes d c = by (find (λ (r : of_class.Class). r.offset == c.class_ref) classes)
  where
    by : (o : Option of_class.Class) → instance_by d c o ≡ instance_by d (bare_class set c) o
    by None = refl
    by (Some entry) = refl

pub same_instances : (parts : List Lent) (p q : PackageRecord) (laid : List (Option Laid)) → Agrees parts p → IsRewritten p laid q
    → filter_map (instance_fault q.classes q.description) q.description.items.classes ≡ []
same_instances parts p q laid a r =
    let f = now_at (changes p laid q) in
    let set = names_interface p.classes in
    ap (λ cs. filter_map (instance_fault cs q.description) q.description.items.classes) r.classes
    ∙ faults_same (instance_fault (map (renewed_class f) p.classes) q.description) (instance_fault p.classes p.description) q.description.items.classes
    (λ c. instances_same set f p.classes p.description q.description c r.description)
    ∙ faults_alike (instance_fault p.classes p.description) (bare_class set) (instance_fault p.classes p.description) p.description.items.classes
    q.description.items.classes
    (instance_bare set p.classes p.description) r.description.classes
    ∙ a.instances

-- ---- static fields

same_place : (set : ℕ → Bool) (d e : Description) (f : FieldDescriptor) → HasSameDescription set d e → place_in e f ≡ place_in d f
unfolding place_in
same_place set d e f h = ap (place_by f) (same_field set d e f.ty h)

share_same : (set : ℕ → Bool) (d e : Description) (x : FieldDescriptor × FieldDescriptor) → HasSameDescription set d e
    → share_pair e x ≡ share_pair d x
unfolding share_fault
share_same set d e x h = ap (λ o. share_by o (place_in e x.1)) (same_place set d e x.0 h) ∙ ap (share_by (place_in d x.0)) (same_place set d e x.1 h)

image_same : (set : ℕ → Bool) (s : Statics) (d e : Description) (f : FieldDescriptor) → HasSameDescription set d e
    → image_fault s e f ≡ image_fault s d f
unfolding image_fault
image_same set s d e f h = ap (image_by s) (same_place set d e f h)

filled_same : (set : ℕ → Bool) (kinds : List ℕ) (d e : Description) (f : FieldDescriptor) → HasSameDescription set d e
    → filled_fault kinds e f ≡ filled_fault kinds d f
unfolding filled_fault
filled_same set kinds d e f h = ap (filled_by (kind_at kinds (image_offset f))) (same_place set d e f h)

same_fields : (p q : PackageRecord) (laid : List (Option Laid)) → IsRewritten p laid q → fields q ≡ fields p
same_fields p q laid r = (alike (names_interface p.classes) p.description.items.classes q.description.items.classes r.description.classes).fields

pub same_shares : (parts : List Lent) (p q : PackageRecord) (laid : List (Option Laid)) → Agrees parts p → IsRewritten p laid q
    → filter_map (share_pair q.description) (pairs (fields q)) ≡ []
same_shares parts p q laid a r = grind (arith, same_fields p q laid r, filter_map, faults_same, share_same)

pub same_places : (parts : List Lent) (p q : PackageRecord) (laid : List (Option Laid)) → Agrees parts p → IsRewritten p laid q
    → filter_map (image_fault q.statics q.description) (fields q) ++ filter_map (filled_fault (array_kinds q.statics.arrays) q.description) (fields q) ≡ []
same_places parts p q laid a r =
    let set = names_interface p.classes in
    let both = both_empty (filter_map (image_fault p.statics p.description) (fields p))
    (filter_map (filled_fault (array_kinds p.statics.arrays) p.description) (fields p)) a.places in
    append_none (filter_map (image_fault q.statics q.description) (fields q))
    (filter_map (filled_fault (array_kinds q.statics.arrays) q.description) (fields q))
    (ap (λ s. filter_map (image_fault s q.description) (fields q)) r.statics
    ∙ ap (filter_map (image_fault p.statics q.description)) (same_fields p q laid r)
    ∙ faults_same (image_fault p.statics q.description) (image_fault p.statics p.description) (fields p)
    (λ x. image_same set p.statics p.description q.description x r.description)
    ∙ both.0)
    (ap (λ (s : Statics). filter_map (filled_fault (array_kinds s.arrays) q.description) (fields q)) r.statics
    ∙ ap (filter_map (filled_fault (array_kinds p.statics.arrays) q.description)) (same_fields p q laid r)
    ∙ faults_same (filled_fault (array_kinds p.statics.arrays) q.description) (filled_fault (array_kinds p.statics.arrays) p.description) (fields p)
    (λ x. filled_same set (array_kinds p.statics.arrays) p.description q.description x r.description)
    ∙ both.1)

exported_same : (f : ℕ → ℕ) (o : Option (List Exported)) → exported_fields (or_none (option_map (map (renewed_exported f)) o)) ≡ exported_fields
    (or_none o)
exported_same f None = refl
exported_same f (Some cs) = by cs
  where
    by : (cs : List Exported) → exported_fields (map (renewed_exported f) cs) ≡ exported_fields cs
    by [] = refl
    by (c ∷ cs) = ap (λ xs. c.fields ++ xs) (by cs)

pub same_exports : (parts : List Lent) (p q : PackageRecord) (laid : List (Option Laid)) → Agrees parts p → IsRewritten p laid q
    → filter_map (no_static_fault (is_static_at (fields q))) (exported_fields (or_none q.export)) ≡ []
same_exports parts p q laid a r =
    ap (λ fs. filter_map (no_static_fault (is_static_at fs)) (exported_fields (or_none q.export))) (same_fields p q laid r)
    ∙ ap (λ o. filter_map (no_static_fault (is_static_at (fields p))) (exported_fields (or_none o))) r.export
    ∙ ap (filter_map (no_static_fault (is_static_at (fields p)))) (exported_same (now_at (changes p laid q)) p.export)
    ∙ a.exports

-- ---- classes

count_refs : (cs : List ClassDescriptor) (n : ℕ) → count_by (λ (d : ClassDescriptor). d.class_ref == n) cs ≡ count_by (λ r. r == n) (map ref_of cs)
count_refs cs n = sym (sum_map (λ r. cond (r == n) 1 0) ref_of cs)

undescribed_same : (f : ℕ → ℕ) (cs ds : List ClassDescriptor) (c : of_class.Class) → map ref_of ds ≡ map ref_of cs
    → undescribed_fault ds (renewed_class f c) ≡ undescribed_fault cs c
unfolding undescribed_fault
undescribed_same f cs ds c e = grind (arith, count_refs ds c.offset, count_refs cs c.offset, count_by)

no_class_same : (f : ℕ → ℕ) (cs : List of_class.Class) (n : ℕ) → undescribed_class_fault (map (renewed_class f) cs) n ≡ undescribed_class_fault cs n
unfolding undescribed_class_fault
no_class_same f cs n = rw (any_map (λ (c : of_class.Class). c.offset == n) (renewed_class f) cs) refl

not_own_same : (f : ℕ → ℕ) (cs : List of_class.Class) (n : ℕ) → not_own_fault (map (renewed_class f) cs) n ≡ not_own_fault cs n
unfolding not_own_fault
not_own_same f cs n = rw (any_map (λ (c : of_class.Class). c.offset == n) (renewed_class f) cs) refl

pub offsets_same : (f : ℕ → ℕ) (o : Option (List Exported))
    → map (λ (c : Exported). c.class_offset) (or_none (option_map (map (renewed_exported f)) o)) ≡ map (λ (c : Exported). c.class_offset) (or_none o)
offsets_same f y = grind (arith, map_twice)

pub same_classes : (parts : List Lent) (p q : PackageRecord) (laid : List (Option Laid)) → Agrees parts p → IsRewritten p laid q
    → (filter_map (undescribed_fault q.description.items.classes) q.classes
    ++ filter_map (not_own_fault q.classes) (map (λ (d : ClassDescriptor). d.class_ref) q.description.items.classes))
    ++ filter_map (undescribed_class_fault q.classes) (map (λ (c : Exported). c.class_offset) (or_none q.export)) ≡ []
same_classes parts p q laid a r =
    let f = now_at (changes p laid q) in
    let ds = q.description.items.classes in
    let cs = p.description.items.classes in
    let same = (alike (names_interface p.classes) cs ds r.description.classes).refs in
    let first = both_empty (filter_map (undescribed_fault cs) p.classes ++ filter_map (not_own_fault p.classes) (map ref_of cs))
    (filter_map (undescribed_class_fault p.classes) (map (λ (c : Exported). c.class_offset) (or_none p.export))) a.classes in
    let second = both_empty (filter_map (undescribed_fault cs) p.classes) (filter_map (not_own_fault p.classes) (map ref_of cs)) first.0 in
    let no_class : (ns : List ℕ) → filter_map (undescribed_class_fault q.classes) ns ≡ filter_map (undescribed_class_fault p.classes) ns = λ ns.
    ap (λ xs. filter_map (undescribed_class_fault xs) ns) r.classes ∙ faults_same (undescribed_class_fault (map (renewed_class f) p.classes))
    (undescribed_class_fault p.classes) ns (no_class_same f p.classes) in
    let not_own : (ns : List ℕ) → filter_map (not_own_fault q.classes) ns ≡ filter_map (not_own_fault p.classes) ns = λ ns.
    ap (λ xs. filter_map (not_own_fault xs) ns) r.classes
    ∙ faults_same (not_own_fault (map (renewed_class f) p.classes)) (not_own_fault p.classes) ns (not_own_same f p.classes) in
    append_none (filter_map (undescribed_fault ds) q.classes ++ filter_map (not_own_fault q.classes) (map ref_of ds))
    (filter_map (undescribed_class_fault q.classes) (map (λ (c : Exported). c.class_offset) (or_none q.export)))
    (append_none (filter_map (undescribed_fault ds) q.classes) (filter_map (not_own_fault q.classes) (map ref_of ds))
    (ap (filter_map (undescribed_fault ds)) r.classes
    ∙ faults_map (undescribed_fault ds) (renewed_class f) p.classes
    ∙ faults_same (λ c. undescribed_fault ds (renewed_class f c)) (undescribed_fault cs) p.classes (λ c. undescribed_same f cs ds c same)
    ∙ second.0)
    (not_own (map ref_of ds) ∙ ap (filter_map (not_own_fault p.classes)) same ∙ second.1))
    (no_class (map (λ (c : Exported). c.class_offset) (or_none q.export))
    ∙ ap (λ o. filter_map (undescribed_class_fault p.classes) (map (λ (c : Exported). c.class_offset) (or_none o))) r.export
    ∙ ap (filter_map (undescribed_class_fault p.classes)) (offsets_same f p.export)
    ∙ first.1)

-- ---- types

field_same : (set : ℕ → Bool) (d e : Description) (f : FieldDescriptor) → HasSameDescription set d e → field_type_fault e f ≡ field_type_fault d f
unfolding field_type_fault
field_same set d e f h = ap (field_type_by f.ty) (same_field set d e f.ty h)

method_same : (set : ℕ → Bool) (d e : Description) (most : ℕ) (m : MethodDescriptor) → HasSameDescription set d e
    → method_type_fault e most m ≡ method_type_fault d most m
unfolding method_type_fault
method_same set d e most m h = ap (method_type_by most m.type_offset) (same_arguments set d e m.type_offset h)

method_bare : (d : Description) (most : ℕ) (m : MethodDescriptor) → method_type_fault d most m ≡ method_type_fault d most (bare_method m)
unfolding method_type_fault
method_bare d most m = refl

pub same_interface_methods : (p q : PackageRecord) (laid : List (Option Laid)) → IsRewritten p laid q → interface_methods q ≡ interface_methods p
same_interface_methods p q laid r =
    let set = names_interface p.classes in
    in_same (names_interface q.classes) set q.description.items.classes
    (λ n. ap (λ cs. names_interface cs n) r.classes ∙ same_interfaces (now_at (changes p laid q)) p.classes n)
    ∙ (alike set p.description.items.classes q.description.items.classes r.description.classes).interfaces

pub same_types : (parts : List Lent) (p q : PackageRecord) (laid : List (Option Laid)) → Agrees parts p → IsRewritten p laid q
    → (filter_map (field_type_fault q.description) (fields q)
    ++ filter_map (method_type_fault q.description 510) (methods_of q.description.items.classes))
    ++ filter_map (method_type_fault q.description 254) (interface_methods q) ≡ []
same_types parts p q laid a r =
    let set = names_interface p.classes in
    let d = p.description in
    let e = q.description in
    let same = (alike set d.items.classes e.items.classes r.description.classes).methods in
    let first = both_empty (filter_map (field_type_fault d) (fields p) ++ filter_map (method_type_fault d 510) (methods_of d.items.classes))
    (filter_map (method_type_fault d 254) (interface_methods p)) a.types in
    let second = both_empty (filter_map (field_type_fault d) (fields p)) (filter_map (method_type_fault d 510) (methods_of d.items.classes)) first.0 in
    append_none (filter_map (field_type_fault e) (fields q) ++ filter_map (method_type_fault e 510) (methods_of e.items.classes))
    (filter_map (method_type_fault e 254) (interface_methods q))
    (append_none (filter_map (field_type_fault e) (fields q)) (filter_map (method_type_fault e 510) (methods_of e.items.classes))
    (ap (filter_map (field_type_fault e)) (same_fields p q laid r)
    ∙ faults_same (field_type_fault e) (field_type_fault d) (fields p) (λ x. field_same set d e x r.description)
    ∙ second.0)
    (faults_same (method_type_fault e 510) (method_type_fault d 510) (methods_of e.items.classes) (λ m. method_same set d e 510 m r.description)
    ∙ faults_alike (method_type_fault d 510) bare_method (method_type_fault d 510) (methods_of d.items.classes) (methods_of e.items.classes)
    (method_bare d 510) same
    ∙ second.1))
    (ap (filter_map (method_type_fault e 254)) (same_interface_methods p q laid r)
    ∙ faults_same (method_type_fault e 254) (method_type_fault d 254) (interface_methods p) (λ m. method_same set d e 254 m r.description)
    ∙ first.1)
