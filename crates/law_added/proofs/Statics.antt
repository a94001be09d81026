-- Static fields, initial arrays and target indexes of the packages before stay when packages are added after them.
use Rattle.std.proofs.Common.{◌≡◌, ◌<◌, ◌≤◌, ◌+◌, ℕ, zero, suc, List, [], ◌∷◌, ◌++◌, length, map, slice_get, Bool, false, cond}
use Rattle.std.proofs.Common.{Option, Some, None, IfSome, refl, ap, subst, ◌∙◌, arith, append_assoc}
use Rattle.std.specs.Prelude.{◌==◌, ◌&&◌, count_by, flat_map}
use Rattle.std.proofs.lemmas.List.{map-append}
use Rattle.std.proofs.lemmas.List.Sums.{sum_by-append, sum_by-cons}
use Rattle.cap_components.specs.PackageRecord.{initial_arrays}
use Rattle.cap_desc.specs.declared.type_list.TypeItem.{TypeItem}
use Rattle.cap_package.specs.PackageRecord.{PackageRecord}
use Rattle.cap_package.specs.StaticPlaces.{static_places}
use Rattle.jc_base.specs.declared.record.MethodRec.{MethodRec}
use Rattle.jc_base.specs.declared.record.StaticRec.{StaticRec}
use Rattle.jc_base.specs.declared.ty.Ty.{Ty}
use Rattle.jc_base.specs.Linked.{list_at}
use Rattle.jc_resolve.specs.WorldTypes.{type_of}
use Rattle.jc_link.specs.Statics.{StaticSite, site, sites_after, sites, static_record, type_of_site, cells_at, records_from, static_records}
use Rattle.jc_link.specs.Arrays.{array_record, array_records}
use Rattle.cap_index.specs.Indexes.{has_code, is_coded, lists_after, package_lists, index_after, indexes_after, indexes_of}
use Rattle.law_added.proofs.Numbers.{each_both, each_mapped, every}
use Rattle.law_added.proofs.Records.{type_front}
use Rattle.std.proofs.lemmas.Grind.{flat_map-append}

-- ---- initial arrays

pub arrays_begin : (ps qs : List PackageRecord) → array_records (ps ++ qs) ≡ array_records ps ++ array_records qs
arrays_begin ps qs =
    ap (map array_record) (flat_map-append initial_arrays ps qs)
    ∙ map-append array_record (flat_map initial_arrays ps) (flat_map initial_arrays qs)

-- ---- static fields

-- the fields of packages, and then those of the packages after them
record AreSitesThen (home first : ℕ) (ps qs : List PackageRecord) : Type 0 where
  later : List StaticSite
  split : sites_after home first (ps ++ qs) ≡ sites_after home first ps ++ later
  homes : (k : ℕ) → IfSome (slice_get later k) (λ s. home + length ps ≤ s.home)

homes_after : (least home first : ℕ) (ps : List PackageRecord) → least ≤ home → (k : ℕ)
    → IfSome (slice_get (sites_after home first ps) k) (λ s. least ≤ s.home)
homes_after least home first [] le k = tt
homes_after least home first (p ∷ ps) le k =
    each_both (λ (s : StaticSite). least ≤ s.home) (map (site home first p.statics) (static_places p))
    (sites_after (home + 1) (first + length p.statics.arrays) ps)
    (each_mapped (λ (s : StaticSite). least ≤ s.home) (site home first p.statics) (static_places p) (every (λ x. least ≤ home) (λ x. le) (static_places p)))
    (homes_after least (home + 1) (first + length p.statics.arrays) ps (omega (arith, le))) k

homes_until : (home first : ℕ) (ps : List PackageRecord) (k : ℕ) → IfSome (slice_get (sites_after home first ps) k) (λ s. s.home < home + length ps)
homes_until home first [] k = tt
homes_until home first (p ∷ ps) k =
    let here : home < home + suc (length ps) = omega arith in
    grind (arith, here, length, suc, each_both, map, each_mapped, every, slice_get, homes_until (home + 1) (first + length p.statics.arrays) ps)

sites_then : (home first : ℕ) (ps qs : List PackageRecord) → AreSitesThen home first ps qs
sites_then home first [] qs = grind (arith, homes_after)
sites_then home first (p ∷ ps) qs =
    let own = map (site home first p.statics) (static_places p) in
    grind (arith, own, length, suc, append_assoc, slice_get, sites_then (home + 1) (first + length p.statics.arrays) ps qs)

record AreRecordsThen (told : ℕ → TypeItem → Ty) (slot : ℕ) (ss later : List StaticSite) : Type 0 where
  at : ℕ
  split : records_from told slot (ss ++ later) ≡ records_from told slot ss ++ records_from told at later

records_then : (told : ℕ → TypeItem → Ty) (slot : ℕ) (ss later : List StaticSite) → AreRecordsThen told slot ss later
records_then told slot [] later = record { at = slot; split = refl }
records_then told slot (s ∷ ss) later = grind (arith, records_then told (slot + cells_at s.place) ss later)

records_alike : (told now : ℕ → TypeItem → Ty) (n slot : ℕ) (ss : List StaticSite) → ((k : ℕ) (t : TypeItem) → k < n → now k t ≡ told k t)
    → ((k : ℕ) → IfSome (slice_get ss k) (λ s. s.home < n)) → records_from now slot ss ≡ records_from told slot ss
records_alike told now n slot [] same h = refl
records_alike told now n slot (s ∷ ss) same h =
    ap (λ ty. static_record slot s ty ∷ records_from now (slot + cells_at s.place) ss) (same s.home s.place.ty (h 0))
    ∙ ap (λ rs. static_record slot s (type_of_site told s) ∷ rs) (records_alike told now n (slot + cells_at s.place) ss same (λ k. h (suc k)))

records_homes : (told : ℕ → TypeItem → Ty) (least slot : ℕ) (ss : List StaticSite) → ((k : ℕ) → IfSome (slice_get ss k) (λ s. least ≤ s.home))
    → (k : ℕ) → IfSome (slice_get (records_from told slot ss) k) (λ f. least ≤ f.«package»)
records_homes told least slot [] h k = tt
records_homes told least slot (s ∷ ss) h zero = h 0
records_homes told least slot (s ∷ ss) h (suc k) = records_homes told least (slot + cells_at s.place) ss (λ i. h (suc i)) k

pub record HaveStaticsThen (object : ℕ) (ps qs : List PackageRecord) : Type 0 where
  pub added : List StaticRec
  pub begin : static_records (type_of (ps ++ qs) object) (ps ++ qs) ≡ static_records (type_of ps object) ps ++ added
  pub later : (k : ℕ) → IfSome (slice_get added k) (λ f. length ps ≤ f.«package»)

pub statics_then : (object : ℕ) (ps qs : List PackageRecord) → HaveStaticsThen object ps qs
statics_then object ps qs =
    let s = sites_then 0 1 ps qs in
    let told = type_of (ps ++ qs) object in
    let e : 0 + length ps ≡ length ps = omega arith in
    let own = subst (λ m. (k : ℕ) → IfSome (slice_get (sites ps) k) (λ x. x.home < m)) e (homes_until 0 1 ps) in
    let after = subst (λ m. (k : ℕ) → IfSome (slice_get s.later k) (λ x. m ≤ x.home)) e s.homes in
    let r = records_then told 0 (sites ps) s.later in
    record {
      added = records_from told r.at s.later;
      begin =
          ap (records_from told 0) s.split ∙ r.split
          ∙ ap (λ rs. rs ++ records_from told r.at s.later)
          (records_alike (type_of ps object) told (length ps) 0 (sites ps) (λ k t lt. type_front ps qs object k t lt) own);
      later = records_homes told (length ps) r.at s.later after;
    }

-- ---- target indexes

count_both : {X : Type 0} (p : X → Bool) (xs ys : List X) → count_by p (xs ++ ys) ≡ count_by p xs + count_by p ys
count_both p xs ys = sum_by-append (λ x. cond (p x) 1 0) xs ys

count_none : (k : ℕ) (ms : List MethodRec) → ((i : ℕ) → IfSome (slice_get ms i) (λ m. k < m.«package»)) → count_by (is_coded k) ms ≡ 0
count_none k [] h = refl
count_none k (m ∷ ms) h =
    let apart : (m.«package» == k) ≡ false = grind (arith, h 0) in
    let none : is_coded k m ≡ false = ap (λ b. b && has_code m) apart in
    let rest = count_none k ms (λ i. h (suc i)) in
    grind (arith, none, rest, sum_by-cons, cond)

module _ (ps qs : List PackageRecord) (ms added : List MethodRec)
    (own : (i : ℕ) → IfSome (slice_get ms i) (λ m. m.«package» < length ps)) (later : (i : ℕ) → IfSome (slice_get added i) (λ m. length ps ≤ m.«package»))
  where
    weaker : (k : ℕ) → k < length ps → (i : ℕ) → IfSome (slice_get added i) (λ m. k < m.«package»)
    weaker k lt i = by (slice_get added i) (later i)
      where
        by : (o : Option MethodRec) → IfSome o (λ m. length ps ≤ m.«package») → IfSome o (λ m. k < m.«package»)
        by None h = tt
        by (Some m) h = omega (arith, lt, h)

    count_same : (k : ℕ) → k < length ps → count_by (is_coded k) (ms ++ added) ≡ count_by (is_coded k) ms
    count_same k lt = grind (arith, count_none k added (weaker k lt), count_both (is_coded k) ms added)

    lists_both : (k : ℕ) (some : List PackageRecord) → k + length some ≡ length ps
        → lists_after (ms ++ added) k (some ++ qs) ≡ lists_after ms k some ++ lists_after (ms ++ added) (length ps) qs
    lists_both k [] e = ap (λ j. lists_after (ms ++ added) j qs) (let f : k ≡ length ps = omega (arith, e) in f)
    lists_both k (p ∷ some) e = grind (arith, count_same k (omega (arith, e)), lists_both (k + 1) some (omega (arith, e)))

    lists_length : (k : ℕ) (some : List PackageRecord) → length (lists_after ms k some) ≡ length some
    lists_length k [] = refl
    lists_length k (p ∷ some) = ap suc (lists_length (k + 1) some)

    list_front : {X : Type 0} (xs ys : List (List X)) (n : ℕ) → n < length xs → list_at (xs ++ ys) n ≡ list_at xs n
    list_front [] ys n lt = absurd (omega (arith, lt))
    list_front (x ∷ xs) ys zero lt = refl
    list_front (x ∷ xs) ys (suc n) lt = list_front xs ys n (omega (arith, lt))

    all_lists : package_lists (ps ++ qs) (ms ++ added) ≡ package_lists ps ms ++ lists_after (ms ++ added) (length ps) qs
    all_lists = lists_both 0 ps (omega arith)

    index_same : (before : List MethodRec) (m : MethodRec) → m.«package» < length ps
        → index_after (package_lists (ps ++ qs) (ms ++ added)) before m ≡ index_after (package_lists ps ms) before m
    unfolding index_after
    index_same before m lt = grind (arith, length, lists_length, slice_get, all_lists, list_front)

    pub added_indexes : List MethodRec → List MethodRec → List (Option (List ℕ))
    added_indexes before [] = indexes_after (package_lists (ps ++ qs) (ms ++ added)) before added
    added_indexes before (m ∷ some) = added_indexes (before ++ m ∷ []) some

    indexes_both : (before some : List MethodRec) → ((i : ℕ) → IfSome (slice_get some i) (λ m. m.«package» < length ps))
        → indexes_after (package_lists (ps ++ qs) (ms ++ added)) before (some ++ added)
        ≡ indexes_after (package_lists ps ms) before some ++ added_indexes before some
    unfolding added_indexes
    indexes_both before [] h = refl
    indexes_both before (m ∷ some) h =
        ap (λ x. x ∷ indexes_after (package_lists (ps ++ qs) (ms ++ added)) (before ++ m ∷ []) (some ++ added)) (index_same before m (h 0))
        ∙ ap (λ xs. index_after (package_lists ps ms) before m ∷ xs) (indexes_both (before ++ m ∷ []) some (λ i. h (suc i)))

    pub indexes_begin : indexes_of (ps ++ qs) (ms ++ added) ≡ indexes_of ps ms ++ added_indexes [] ms
    unfolding indexes_of
    indexes_begin = indexes_both [] ms own
