-- Entries of the constant pools of the packages before name the same members when packages are added after them.
use Rattle.std.proofs.Common.{◌≡◌, ◌<◌, ◌≤◌, ◌+◌, ℕ, zero, suc, List, [], ◌∷◌, ◌++◌, length, map, find, slice_get, Bool, true, false, cond}
use Rattle.std.proofs.Common.{Option, Some, None, IfSome, option_map, option_and_then, refl, sym, ap, ◌∙◌, arith, All, append_assoc}
use Rattle.std.proofs.Common.{length-append}
use Rattle.std.specs.Prelude.{if◌then◌else◌, ◌==◌, ◌&&◌, is_some, filter_map, flat_map}
use Rattle.cap_bytes.specs.declared.class_reference.ClassReference.{ClassReference}
use Rattle.cap_class.specs.ClassFormat.{Class, is_interface as is_interface_flags}
use Rattle.cap_desc.specs.declared.type_list.TypeItem.{TypeItem}
use Rattle.cap_desc.specs.DescriptorFormat.{ClassDescriptor, FieldDescriptor}
use Rattle.cap_package.specs.Descriptions.{Description, field_type}
use Rattle.cap_package.specs.HeaderChecks.{is_static}
use Rattle.cap_package.specs.PackageRecord.{PackageRecord}
use Rattle.cap_pool.specs.PoolFormat.{Entry}
use Rattle.cap_pool.specs.PoolReference.{referred}
use Rattle.cap_pool.specs.declared.pool_record.PoolReference.{PoolReference}
use Rattle.cap_pool.specs.declared.pool_record.PoolReference.TheVariants as refs
use Rattle.cap_pool.specs.declared.pool_record.StaticReference.{StaticReference}
use Rattle.cap_pool.specs.declared.pool_record.StaticReference.TheVariants.{Internal, External}
use Rattle.jc_base.specs.declared.record.Member.TheVariants.{Virtual, StaticCall}
use Rattle.jc_base.specs.declared.record.StaticRec.{StaticRec}
use Rattle.jc_base.specs.Class.{ClassTable, chain, object, parent_of}
use Rattle.jc_base.specs.Linked.{cells_above}
use Rattle.jc_resolve.specs.declared.fault.RecordPlace.{RecordPlace}
use Rattle.jc_resolve.specs.declared.field_records.OwnField.{OwnField}
use Rattle.jc_resolve.specs.Numbering.{numbered_class, numbered_classes, classes_after, method_at}
use Rattle.jc_resolve.specs.References.{class_referred, met_by, exported_field, exported_method}
use Rattle.jc_resolve.specs.OwnFields.{field_with, own_field, fields_in, own_fields}
use Rattle.jc_resolve.proofs.ImportLaws.{met_before}
use Rattle.jc_link.specs.Entries.{place_in, place_by, field_place, method_place}
use Rattle.jc_link.specs.Fields.{field_site, sites_of_classes, sites_after, field_sites}
use Rattle.jc_link.specs.Sites.{MemberSite, members_standing, same_spot, only, is_there}
use Rattle.jc_link.specs.Members.{class_member, proper_by, proper_referred, virtual_by, virtual_member, super_by, super_of, super_member}
use Rattle.jc_link.specs.Members.{static_site, static_sites, static_at, static_member, call_member, token_of_class, holder_of, as_of, field_of, field_member}
use Rattle.jc_link.specs.Members.{member_referred, member_of}
use Rattle.jc_link.proofs.KnownMembers.{class-below}
use Rattle.law_added.proofs.Numbers.{other, method_at_front}
use Rattle.law_added.proofs.Names.{asked_front, met_front, referred_front}
use Rattle.law_added.proofs.Records.{type_front}
use Rattle.law_added.proofs.Tables.{IsGrown, object_front, interface_front, parent_front, package_front, cells_front, entry_front}

-- ---- members at a spot

-- what stands elsewhere is not found
standing_front : (xs ys : List MemberSite) (c n : ℕ) → ((k : ℕ) → IfSome (slice_get ys k) (λ s. same_spot (token_of_class c n) s.spot ≡ false))
    → members_standing (xs ++ ys) (token_of_class c n) ≡ members_standing xs (token_of_class c n)
standing_front [] [] c n h = refl
standing_front [] (y ∷ ys) c n h =
    ap (λ b. if b then y.member ∷ members_standing ys (token_of_class c n) else members_standing ys (token_of_class c n)) (h 0)
    ∙ standing_front [] ys c n (λ k. h (suc k))
standing_front (x ∷ xs) ys c n h = grind (arith, standing_front xs ys c n h)

apart_spot : (c n owner number : ℕ) → c < owner → same_spot (token_of_class c n) (token_of_class owner number) ≡ false
apart_spot c n owner number lt = ap (λ b. b && n == number) (other c owner lt)

pub found_alike : (p q : ℕ → Bool) (n : ℕ) → ((a : ℕ) → a < n → p a ≡ q a) → (xs : List ℕ) → All (λ a. a < n) xs → find p xs ≡ find q xs
found_alike p q n same [] h = refl
found_alike p q n same (x ∷ xs) h =
    ap (λ b. cond b (Some x) (find p xs)) (same x (h 0 x (omega arith)))
    ∙ ap (λ o. cond (q x) (Some x) o) (found_alike p q n same xs (λ i d lt. h (suc i) d (omega (arith, lt))))

-- what is found among numbers below a bound is below it
pub found_below : (p : ℕ → Bool) (n : ℕ) (xs : List ℕ) → All (λ a. a < n) xs → IfSome (find p xs) (λ a. a < n)
found_below p n [] h = tt
found_below p n (x ∷ xs) h = by (p x) (h 0 x (omega arith)) (found_below p n xs (λ i d lt. h (suc i) d (omega (arith, lt))))
  where
    by : (b : Bool) → x < n → IfSome (find p xs) (λ a. a < n) → IfSome (cond b (Some x) (find p xs)) (λ a. a < n)
    by true here rest = here
    by false here rest = rest

module _ (ps qs : List PackageRecord) (t u : ClassTable) (g : IsGrown (length (numbered_classes ps)) t u) where
  abbrev n : ℕ
  n = length (numbered_classes ps)

  -- ---- places

  at_place : (told : ℕ → ℕ → ℕ → Option ℕ) (now : ℕ → ℕ → ℕ → Option ℕ) (k import class token : ℕ) (o : Option ℕ) → k < length ps
      → ((j : ℕ) → j < length ps → now j class token ≡ told j class token) → IfSome o (λ j. j < k)
      → option_and_then (λ j. option_map (place_in j) (now j class token)) o ≡ option_and_then (λ j. option_map (place_in j) (told j class token)) o
  at_place told now k import class token x lt same h = grind (arith, option_map)

  place_front : (told now : ℕ → ℕ → ℕ → Option ℕ) (k : ℕ) (r : StaticReference) → k < length ps
      → ((j class token : ℕ) → j < length ps → now j class token ≡ told j class token)
      → place_by (ps ++ qs) now k r ≡ place_by ps told k r
  place_front told now k (Internal offset) lt same = refl
  place_front told now k (External import class token) lt same =
      ap (option_and_then (λ j. option_map (place_in j) (now j class token))) (met_front ps qs k import lt)
      ∙ at_place told now k import class token (met_by ps k import) lt (λ j. same j class token) (met_before ps k import (met_by ps k import) refl)

  -- a place to which a reference leads is in the package itself or in one before it
  by_below : (told : ℕ → ℕ → ℕ → Option ℕ) (k class token : ℕ) (o : Option ℕ) → k < length ps → IfSome o (λ j. j < k)
      → IfSome (option_and_then (λ j. option_map (place_in j) (told j class token)) o) (λ place. place.«package» < length ps)
  by_below told k class token None lt h = tt
  by_below told k class token (Some j) lt h = go (told j class token)
    where
      go : (o : Option ℕ) → IfSome (option_map (place_in j) o) (λ place. place.«package» < length ps)
      go None = tt
      go (Some offset) = let less : j < length ps = omega (arith, lt, h) in less

  place_below : (told : ℕ → ℕ → ℕ → Option ℕ) (k : ℕ) (r : StaticReference) → k < length ps
      → IfSome (place_by ps told k r) (λ place. place.«package» < length ps)
  place_below told k (Internal offset) lt = lt
  place_below told k (External import class token) lt =
      by_below told k class token (met_by ps k import) lt (met_before ps k import (met_by ps k import) refl)

  -- ---- classes

  proper_same : (o : Option ℕ) → IfSome o (λ c. c < n) → option_and_then (proper_by u) o ≡ option_and_then (proper_by t) o
  proper_same None h = refl
  proper_same (Some c) h = ap (λ b. if b then None else Some c) (interface_front n t u g c h)

  proper_front : (k : ℕ) (r : ClassReference) → k < length ps → proper_referred (ps ++ qs) u k r ≡ proper_referred ps t k r
  unfolding proper_referred
  proper_front k r lt =
      ap (option_and_then (proper_by u)) (referred_front ps qs k r lt) ∙ proper_same (class_referred ps k r) (class-below ps k r)

  -- what is asked of the class that a reference names is answered as before
  proper_then : {X : Type 0} (f h : ℕ → Option X) (k : ℕ) (r : ClassReference) → k < length ps → ((c : ℕ) → c < n → f c ≡ h c)
      → option_and_then f (proper_referred (ps ++ qs) u k r) ≡ option_and_then h (proper_referred ps t k r)
  unfolding proper_referred
  proper_then f h k r lt same =
      ap (option_and_then f) (proper_front k r lt) ∙ by (class_referred ps k r) (class-below ps k r)
    where
      at : (c : ℕ) (b : Bool) → c < n → option_and_then f (if b then None else Some c) ≡ option_and_then h (if b then None else Some c)
      at c true less = refl
      at c false less = same c less

      by : (o : Option ℕ) → IfSome o (λ c. c < n) → option_and_then f (option_and_then (proper_by t) o) ≡ option_and_then h (option_and_then (proper_by t) o)
      by x less = grind (arith, at)

  virtual_front : (k : ℕ) (r : ClassReference) (token : ℕ) → k < length ps → virtual_member (ps ++ qs) u k r token ≡ virtual_member ps t k r token
  unfolding virtual_member virtual_by
  virtual_front k r token lt =
      proper_then (virtual_by u token) (virtual_by t token) k r lt
      (λ c less. ap (λ o. if is_some o then Some (Virtual c token) else None) (entry_front n t u g c token less))

  super_front : (k : ℕ) (r : ClassReference) (token : ℕ) → k < length ps → super_member (ps ++ qs) u k r token ≡ super_member ps t k r token
  unfolding super_member super_of super_by
  super_front k r token lt = proper_then (super_of u token) (super_of t token) k r lt at
    where
      above : (c : ℕ) (o : Option ℕ) → c < n → IfSome o (λ p. p < n) → option_and_then (super_by u token c) o ≡ option_and_then (super_by t token c) o
      above c None less h = refl
      above c (Some p) less h = rw (package_front n t u g p h, package_front n t u g c less, entry_front n t u g p token h) refl

      at : (c : ℕ) → c < n → super_of u token c ≡ super_of t token c
      at c less = ap (option_and_then (super_by u token c)) (parent_front n t u g c less) ∙ above c (parent_of t c) less (g.parents c)

  -- ---- calls

  call_front : (k : ℕ) (r : StaticReference) → k < length ps → call_member (ps ++ qs) k r ≡ call_member ps k r
  unfolding call_member method_place
  call_front k r lt =
      ap (λ o. option_map StaticCall (option_and_then (method_at (ps ++ qs)) o))
      (place_front (exported_method ps) (exported_method (ps ++ qs)) k r lt (λ j class token less. asked_front ps qs _ j less))
      ∙ ap (option_map StaticCall) (by (place_by ps (exported_method ps) k r) (place_below (exported_method ps) k r lt))
    where
      by : (o : Option RecordPlace) → IfSome o (λ place. place.«package» < length ps)
          → option_and_then (method_at (ps ++ qs)) o ≡ option_and_then (method_at ps) o
      by None h = refl
      by (Some place) h = method_at_front ps qs place h

  -- ---- static fields

  module _ (statics added : List StaticRec) (later : (k : ℕ) → IfSome (slice_get added k) (λ f. length ps ≤ f.«package»)) where
    added_sites : (k : ℕ) (place : RecordPlace) → place.«package» < length ps
        → IfSome (slice_get (static_sites added) k) (λ s. same_spot (token_of_class place.«package» place.offset) s.spot ≡ false)
    added_sites k place lt = go added later k
      where
        go : (fs : List StaticRec) → ((k : ℕ) → IfSome (slice_get fs k) (λ f. length ps ≤ f.«package»)) → (k : ℕ)
            → IfSome (slice_get (static_sites fs) k) (λ s. same_spot (token_of_class place.«package» place.offset) s.spot ≡ false)
        go [] h k = tt
        go (f ∷ fs) h zero =
            apart_spot place.«package» place.offset f.«package» f.offset (omega (arith, lt, h 0))
        go (f ∷ fs) h (suc k) = go fs (λ i. h (suc i)) k

    sites_split : (fs gs : List StaticRec) → static_sites (fs ++ gs) ≡ static_sites fs ++ static_sites gs
    sites_split [] gs = refl
    sites_split (f ∷ fs) gs = ap (λ ss. static_site f ∷ ss) (sites_split fs gs)

    static_front : (k : ℕ) (r : StaticReference) → k < length ps
        → static_member (ps ++ qs) (statics ++ added) k r ≡ static_member ps statics k r
    unfolding static_member field_place static_at
    static_front k r lt =
        ap (option_and_then (static_at (statics ++ added)))
        (place_front (exported_field ps) (exported_field (ps ++ qs)) k r lt (λ j class token less. asked_front ps qs _ j less))
        ∙ by (place_by ps (exported_field ps) k r) (place_below (exported_field ps) k r lt)
      where
        by : (o : Option RecordPlace) → IfSome o (λ place. place.«package» < length ps)
            → option_and_then (static_at (statics ++ added)) o ≡ option_and_then (static_at statics) o
        by None h = refl
        by (Some place) h =
            ap (λ ss. only (members_standing ss (token_of_class place.«package» place.offset))) (sites_split statics added)
            ∙ ap only (standing_front (static_sites statics) (static_sites added) place.«package» place.offset (λ k. added_sites k place h))

    -- ---- instance fields

    above_same : (o : Option ℕ) → IfSome o (λ p. p < n) → cells_above u o ≡ cells_above t o
    above_same None h = refl
    above_same (Some p) h = cells_front n t u g p h

    own_field_front : (k : ℕ) (d : Description) (f : FieldDescriptor) → k < length ps
        → own_field (ps ++ qs) (object u) k d f ≡ own_field ps (object t) k d f
    unfolding own_field
    own_field_front k d f lt = ap (λ o. if is_static f.flags then None else o) (by (field_type d f.ty))
      where
        by : (o : Option TypeItem) → option_map (field_with (ps ++ qs) (object u) k f) o ≡ option_map (field_with ps (object t) k f) o
        by None = refl
        by (Some ty) = rw (object_front n t u g, type_front ps qs (object t) k ty lt) refl

    own_in : (k : ℕ) (d : Description) (fs : List FieldDescriptor) → k < length ps
        → filter_map (own_field (ps ++ qs) (object u) k d) fs ≡ filter_map (own_field ps (object t) k d) fs
    own_in k d [] lt = refl
    own_in k d (f ∷ fs) lt = rw (own_field_front k d f lt, own_in k d fs lt) refl

    own_all : (k offset : ℕ) (d : Description) (cs : List ClassDescriptor) → k < length ps
        → flat_map (fields_in (ps ++ qs) (object u) k d offset) cs ≡ flat_map (fields_in ps (object t) k d offset) cs
    own_all k offset d [] lt = refl
    own_all k offset d (c ∷ cs) lt = rw (own_in k d c.fields lt, own_all k offset d cs lt) refl

    own_front : (k : ℕ) (p : PackageRecord) (c : Class) → k < length ps → own_fields (ps ++ qs) (object u) k p c ≡ own_fields ps (object t) k p c
    unfolding own_fields
    own_front k p c lt = ap (λ fs. if is_interface_flags c.flags then [] else fs) (own_all k c.offset p.description p.description.items.classes lt)

    -- the fields of classes of a package before
    class_front : (k : ℕ) (p : PackageRecord) (c : ℕ) (rs : List Class) → k < length ps → c + length rs ≤ n
        → sites_of_classes (ps ++ qs) u k p c rs ≡ sites_of_classes ps t k p c rs
    class_front k p c [] lt le = refl
    class_front k p c (r ∷ rs) lt le =
        let here : cells_above u (parent_of u c) ≡ cells_above t (parent_of t c) =
        ap (cells_above u) (parent_front n t u g c (omega (arith, le))) ∙ above_same (parent_of t c) (g.parents c) in
        grind (arith, here, map, own_front, class_front k p (c + 1) rs lt (omega (arith, le)))

    abbrev AreApart : List MemberSite → Type 0
    AreApart ss = (k : ℕ) → IfSome (slice_get ss k) (λ s. n ≤ s.spot.owner)

    apart_both : (xs ys : List MemberSite) → AreApart xs → AreApart ys → AreApart (xs ++ ys)
    apart_both [] ys a b k = b k
    apart_both (x ∷ xs) ys a b zero = a 0
    apart_both (x ∷ xs) ys a b (suc k) = apart_both xs ys (λ i. a (suc i)) b k

    apart_own : (above c : ℕ) (all fs : List OwnField) → n ≤ c → AreApart (map (field_site above c all) fs)
    apart_own above c all [] le k = tt
    apart_own above c all (f ∷ fs) le zero = le
    apart_own above c all (f ∷ fs) le (suc k) = apart_own above c all fs le k

    apart_classes : (xs : List PackageRecord) (k : ℕ) (p : PackageRecord) (c : ℕ) (rs : List Class) → n ≤ c → AreApart (sites_of_classes xs u k p c rs)
    apart_classes xs k p c [] le j = tt
    apart_classes xs k p c (r ∷ rs) le j = grind (arith, apart_both, apart_own, apart_classes xs k p (c + 1) rs (omega (arith, le)))

    apart_after : (xs : List PackageRecord) (c k : ℕ) (rest : List PackageRecord) → n ≤ c → AreApart (sites_after xs u c k rest)
    apart_after xs c k [] le j = tt
    apart_after xs c k (p ∷ rest) le j =
        apart_both (sites_of_classes xs u k p c p.classes) (sites_after xs u (c + length p.classes) (k + 1) rest)
        (apart_classes xs k p c p.classes le) (apart_after xs (c + length p.classes) (k + 1) rest (omega (arith, le))) j

    record AreSplit (c k : ℕ) (some : List PackageRecord) : Type 0 where
      later_sites : List MemberSite
      split : sites_after (ps ++ qs) u c k (some ++ qs) ≡ sites_after ps t c k some ++ later_sites
      apart : AreApart later_sites

    sites_from : (c k : ℕ) (some : List PackageRecord) → k + length some ≡ length ps → c + length (classes_after k some) ≡ n → AreSplit c k some
    sites_from c k [] e f = record { later_sites = sites_after (ps ++ qs) u c k qs; split = refl; apart = apart_after (ps ++ qs) c k qs (omega (arith, f)) }
    sites_from c k (p ∷ some) e f =
        let own : length (map (numbered_class k p) p.classes) ≡ length p.classes = length_mapped (numbered_class k p) p.classes in
        let sum = length_both (map (numbered_class k p) p.classes) (classes_after (k + 1) some) in
        let rest = sites_from (c + length p.classes) (k + 1) some (omega (arith, e)) (omega (arith, f, own, sum)) in
        record {
          later_sites = rest.later_sites;
          split =
              ap (λ ss. ss ++ sites_after (ps ++ qs) u (c + length p.classes) (k + 1) (some ++ qs))
              (class_front k p c p.classes (omega (arith, e)) (omega (arith, f, own, sum)))
              ∙ ap (λ ss. sites_of_classes ps t k p c p.classes ++ ss) rest.split
              ∙ sym (append_assoc (sites_of_classes ps t k p c p.classes) (sites_after ps t (c + length p.classes) (k + 1) some) rest.later_sites);
          apart = rest.apart;
        }
      where
        length_mapped : {X Y : Type 0} (h : X → Y) (xs : List X) → length (map h xs) ≡ length xs
        length_mapped h [] = refl
        length_mapped h (x ∷ xs) = ap suc (length_mapped h xs)

        length_both : {X : Type 0} (xs ys : List X) → length (xs ++ ys) ≡ length xs + length ys
        length_both xs ys = length-append xs ys

    all_sites : AreSplit 0 0 ps
    all_sites = sites_from 0 0 ps (omega arith) (omega arith)

    standing_same : (h token : ℕ) → h < n
        → members_standing (field_sites (ps ++ qs) u) (token_of_class h token) ≡ members_standing (field_sites ps t) (token_of_class h token)
    standing_same h token lt =
        ap (λ ss. members_standing ss (token_of_class h token)) all_sites.split
        ∙ standing_front (field_sites ps t) all_sites.later_sites h token (λ k. by (slice_get all_sites.later_sites k) (all_sites.apart k))
      where
        by : (o : Option MemberSite) → IfSome o (λ s. n ≤ s.spot.owner) → IfSome o (λ s. same_spot (token_of_class h token) s.spot ≡ false)
        by None a = tt
        by (Some s) a = apart_spot h token s.spot.owner s.spot.number (omega (arith, lt, a))

    holder_same : (token c : ℕ) → c < n → holder_of (field_sites (ps ++ qs) u) u token c ≡ holder_of (field_sites ps t) t token c
    unfolding holder_of
    holder_same token c lt =
        ap (find (λ h. is_there (members_standing (field_sites (ps ++ qs) u) (token_of_class h token)))) (g.chains c lt)
        ∙ found_alike (λ h. is_there (members_standing (field_sites (ps ++ qs) u) (token_of_class h token)))
        (λ h. is_there (members_standing (field_sites ps t) (token_of_class h token))) n (λ h less. ap is_there (standing_same h token less)) (chain t c)
        (g.within c lt)

    field_same : (token c : ℕ) → c < n → field_of (field_sites (ps ++ qs) u) u token c ≡ field_of (field_sites ps t) t token c
    unfolding field_of holder_of
    field_same token c lt =
        ap (λ o. option_map (as_of c) (option_and_then (λ h. only (members_standing (field_sites (ps ++ qs) u) (token_of_class h token))) o))
        (holder_same token c lt)
        ∙ ap (option_map (as_of c))
        (by (holder_of (field_sites ps t) t token c)
        (found_below (λ h. is_there (members_standing (field_sites ps t) (token_of_class h token))) n (chain t c) (g.within c lt)))
      where
        by : (o : Option ℕ) → IfSome o (λ h. h < n)
            → option_and_then (λ h. only (members_standing (field_sites (ps ++ qs) u) (token_of_class h token))) o
            ≡ option_and_then (λ h. only (members_standing (field_sites ps t) (token_of_class h token))) o
        by None less = refl
        by (Some h) less = ap only (standing_same h token less)

    field_front : (k : ℕ) (r : ClassReference) (token : ℕ) → k < length ps → field_member (ps ++ qs) u k r token ≡ field_member ps t k r token
    unfolding field_member
    field_front k r token lt = grind (arith, proper_then, field_same)

    -- ---- all

    referred_member : (k : ℕ) (r : PoolReference) → k < length ps
        → member_referred (ps ++ qs) u (statics ++ added) k r ≡ member_referred ps t statics k r
    unfolding class_member
    referred_member k x lt = grind (arith, option_map, referred_front, field_front, virtual_front, super_front, static_front, call_front)

    pub member_front : (k : ℕ) (e : Entry) → k < length ps → member_of (ps ++ qs) u (statics ++ added) k e ≡ member_of ps t statics k e
    unfolding member_of
    member_front k e lt = referred_member k (referred e) lt
