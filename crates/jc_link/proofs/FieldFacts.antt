-- The static fields of packages have their types, and their words too.
use Rattle.std.proofs.Common.{◌≡◌, ℕ, zero, suc, ◌+◌, ◌*◌, ◌/◌, ◌%◌, ◌≤◌, ◌<◌, true, false, eqb, leb, List, []}
use Rattle.std.proofs.Common.{◌∷◌, ◌++◌, length, get_or, map, Option, Some, refl, sym, ap, subst, ◌∙◌, inl, inr, arith, append_assoc}
use Rattle.std.proofs.Common.{length-append}
use Rattle.std.specs.Prelude.{All, slice_get, option_map}
use Rattle.std.proofs.lemmas.Bool.{le-leb, eqb-true, and_parts}
use Rattle.std.proofs.lemmas.List.{length-map}
use Rattle.std.proofs.lemmas.Option.{slice_get-map, slice_get_within, slice_get_cases}
use Rattle.std.proofs.lemmas.List.Elements.{All-nil, All-cons, All-head, All-tail, All-append, All-map}
use Rattle.jc_base.specs.declared.ty.Ty.{Ty}
use Rattle.jc_base.specs.declared.ty.Kind.{Kind}
use Rattle.jc_base.specs.declared.ty.Kind.TheVariants as kinds
use Rattle.jc_base.specs.declared.record.ArrayRec.{ArrayRec}
use Rattle.jc_base.specs.declared.record.StaticRec.{StaticRec}
use Rattle.jc_base.specs.Class.{ClassTable}
use Rattle.jc_base.specs.Order.{Below, same}
use Rattle.jc_base.proofs.Lists.{All-slice_get, slice_get-front, slice_get-farther}
use Rattle.jc_base.specs.Cell.{IsDeclared, IsInitialHandle, AreInitialWords}
use Rattle.jc_base.specs.Linked.{IsStatic}
use Rattle.cap_method.specs.StaticFormat.{Array, Statics}
use Rattle.cap_desc.specs.declared.type_list.TypeItem.{TypeItem}
use Rattle.cap_desc.specs.TypeFormat.{is_type}
use Rattle.cap_package.specs.StaticChecks.{ImagePlace, is_in_image}
use Rattle.cap_package.specs.PackageRecord.{PackageRecord}
use Rattle.cap_package.specs.StaticPlaces.{static_places, IsStaticPlace}
use Rattle.jc_resolve.specs.WorldTypes.{kind_of}
use Rattle.jc_link.specs.Arrays.{array_type, array_record, array_records}
use Rattle.jc_link.specs.Image.{image, references, words_at}
use Rattle.jc_link.specs.Statics.{StaticSite, site, sites, sites_after, cells_at, static_record, type_of_site, records_from, static_records}
use Rattle.jc_link.specs.KnownFields.{IsPrimitive, AreTold, AreStaticsKnown}
use Rattle.jc_link.proofs.ArrayLists.{one_package, signed_is}
use Rattle.jc_link.proofs.ImageBytes.{handle_in, handle_past}

-- ---- which array has a handle

-- a field of a world of so many packages and these arrays, so many of which stand before those of its package
record IsSite (n : ℕ) (arrays : List ArrayRec) (s : StaticSite) : Type 0 where
  home : s.home < n
  place : IsStaticPlace s.statics s.place
  kinds : All (λ (a : Array). IsPrimitive a.kind) s.statics.arrays
  before : ℕ
  first : s.first ≡ suc before
  handles : (k : ℕ) (a : Array) → slice_get s.statics.arrays k ≡ Some a → slice_get arrays (before + k) ≡ Some (array_record a)

handle_of : (before : List ArrayRec) (arrays : List Array) (rest : List ArrayRec) (k : ℕ) (a : Array) → slice_get arrays k ≡ Some a
    → slice_get (before ++ (map array_record arrays ++ rest)) (length before + k) ≡ Some (array_record a)
handle_of before arrays rest k a e =
    slice_get-farther before (map array_record arrays ++ rest) k (length before + k) refl
    ∙ slice_get-front (map array_record arrays) rest k (array_record a)
    (slice_get-map array_record arrays k ∙ ap (λ (o : Option Array). option_map array_record o) e)

sites_known : (n : ℕ) (arrays : List ArrayRec) (qs : List PackageRecord) (home first : ℕ) (before : List ArrayRec)
    → arrays ≡ before ++ array_records qs → first ≡ suc (length before) → home + length qs ≤ n → All AreStaticsKnown qs
    → All (IsSite n arrays) (sites_after home first qs)
sites_known n arrays [] home first before e f le known = All-nil (IsSite n arrays)
sites_known n arrays (p ∷ qs) home first before e f le known =
    let p_known = All-head AreStaticsKnown p qs known in
    let split : arrays ≡ before ++ (map array_record p.statics.arrays ++ array_records qs) = e ∙ ap (λ rs. before ++ rs) (one_package p qs) in
    let longer : length (before ++ map array_record p.statics.arrays) ≡ length before + length p.statics.arrays = length-append before
    (map array_record p.statics.arrays) ∙ ap (λ k. length before + k) (length-map p.statics.arrays array_record) in
    let here : All (IsSite n arrays) (map (site home first p.statics) (static_places p)) =
    All-map (IsSite n arrays) (site home first p.statics) (static_places p) (λ k d lt. record {
      home = omega arith;
      place = p_known.places k d lt;
      kinds = p_known.arrays;
      before = length before;
      first = f;
      handles = λ m a there. rw split (handle_of before p.statics.arrays (array_records qs) m a there);
    }) in
    let there = sites_known n arrays qs (home + 1) (first + length p.statics.arrays) (before ++ map array_record p.statics.arrays)
    (split ∙ sym (append_assoc before (map array_record p.statics.arrays) (array_records qs))) (omega (arith, longer, f)) (omega arith)
    (All-tail AreStaticsKnown p qs known) in
    All-append (IsSite n arrays) (map (site home first p.statics) (static_places p)) (sites_after (home + 1) (first + length p.statics.arrays) qs) here there

-- ---- references

reference_type : (n r : ℕ) → kind_of (record { nibble = n; class_ref = r }) ≡ kinds.Ref → is_type n ≡ true → eqb n 1 ≡ false → 6 ≤ n
unfolding kind_of
reference_type zero r k typed void = absurd cc
reference_type (suc zero) r k typed void = absurd cc
reference_type (suc (suc zero)) r k typed void = absurd cc
reference_type (suc (suc (suc zero))) r k typed void = absurd cc
reference_type (suc (suc (suc (suc zero)))) r k typed void = absurd cc
reference_type (suc (suc (suc (suc (suc zero))))) r k typed void = absurd cc
reference_type (suc (suc (suc (suc (suc (suc n)))))) r k typed void = omega arith

even_place : (s : Statics) (p : ImagePlace) → 6 ≤ p.ty.nibble → is_in_image s p ≡ true → p.offset % 2 ≡ 0
even_place s p le h = grind (arith, eqb, leb, le-leb, eqb-true, and_parts)

at_reference : (n : ℕ) → n % 2 ≡ 0 → n ≡ 2 * (n / 2)
at_reference n h = omega arith

filled_reference : (told : ℕ → TypeItem → Ty) → AreTold told → (n : ℕ) (arrays : List ArrayRec) (t : ClassTable) (s : StaticSite)
    → length arrays ≤ 4096 → IsSite n arrays s → (a : Array) → slice_get s.statics.arrays (s.place.offset / 2) ≡ Some a
    → s.place.offset % 2 ≡ 0
    → IsInitialHandle t arrays (type_of_site told s) (get_or (references s.first s.statics) (s.place.offset / 2) 0)
filled_reference told are n arrays t s few known a there even =
    let k = s.place.offset / 2 in
    let within = slice_get_within s.statics.arrays k a there in
    let below = slice_get_within arrays (known.before + k) (array_record a) (known.handles k a there) in
    let h : get_or (references s.first s.statics) k 0 ≡ suc (known.before + k) = omega (arith, handle_in s.first s.statics k within, known.first) in
    let primitive : IsPrimitive a.kind = All-slice_get (λ (b : Array). IsPrimitive b.kind) s.statics.arrays k a known.kinds there in
    let ty : type_of_site told s ≡ array_type a.kind =
    (are s.home s.place.ty known.place.typed known.place.no_void).array a.kind primitive (known.place.filled k a there (at_reference s.place.offset even)) in
    subst (IsInitialHandle t arrays (type_of_site told s)) (sym h)
    (rw (known.handles k a there) (subst (λ u. Below t (array_type a.kind) u) (sym ty) same))

null_reference : (arrays : List ArrayRec) (t : ClassTable) (s : StaticSite) (ty : Ty) → length s.statics.arrays ≤ s.place.offset / 2
    → IsInitialHandle t arrays ty (get_or (references s.first s.statics) (s.place.offset / 2) 0)
null_reference arrays t s ty past = rw (handle_past s.first s.statics (s.place.offset / 2) past) tt

reference_words : (told : ℕ → TypeItem → Ty) → AreTold told → (n : ℕ) (arrays : List ArrayRec) (t : ClassTable) (s : StaticSite)
    → length arrays ≤ 4096 → IsSite n arrays s → kind_of s.place.ty ≡ kinds.Ref
    → IsInitialHandle t arrays (type_of_site told s) (get_or (references s.first s.statics) (s.place.offset / 2) 0)
reference_words told are n arrays t s few known kind =
    let le = reference_type s.place.ty.nibble s.place.ty.class_ref kind known.place.typed known.place.no_void in
    let even = even_place s.statics s.place le known.place.inside in
    elim (slice_get_cases s.statics.arrays (s.place.offset / 2)).1 [
      | inl there ↦ filled_reference told are n arrays t s few known there.0 there.2 even
      | inr past ↦ null_reference arrays t s (type_of_site told s) past.0
    ]

words_by : (told : ℕ → TypeItem → Ty) → AreTold told → (n : ℕ) (arrays : List ArrayRec) (t : ClassTable) (s : StaticSite)
    → length arrays ≤ 4096 → IsSite n arrays s → (k : Kind) → kind_of s.place.ty ≡ k
    → AreInitialWords t arrays k (type_of_site told s) (words_at s.first s.statics k s.place.offset)
words_by told are n arrays t s few known kinds.Ref e = reference_words told are n arrays t s few known e
words_by told are n arrays t s few known kinds.Byte e = signed_is (get_or (image s.statics) s.place.offset 0)
words_by told are n arrays t s few known kinds.Short e = tt
words_by told are n arrays t s few known kinds.Int e = tt

-- ---- fields

abbrev AreDeclared : ClassTable → List StaticRec → Type 0
AreDeclared t = All (λ (f : StaticRec). IsDeclared t f.ty)

fields_known : (told : ℕ → TypeItem → Ty) → AreTold told → (n : ℕ) (arrays : List ArrayRec) (t : ClassTable) → length arrays ≤ 4096
    → (slot : ℕ) (ss : List StaticSite) → All (IsSite n arrays) ss → AreDeclared t (records_from told slot ss)
    → All (IsStatic n t arrays) (records_from told slot ss)
fields_known told are n arrays t few slot [] known declared = All-nil (IsStatic n t arrays)
fields_known told are n arrays t few slot (s ∷ ss) known declared =
    let f = static_record slot s (type_of_site told s) in
    let others = records_from told (slot + cells_at s.place) ss in
    let site = All-head (IsSite n arrays) s ss known in
    All-cons (IsStatic n t arrays) f others
    (record {
      home = site.home;
      ty = All-head (λ (g : StaticRec). IsDeclared t g.ty) f others declared;
      kind = (are s.home s.place.ty site.place.typed site.place.no_void).kind;
      words = words_by told are n arrays t s few site (kind_of s.place.ty) refl;
    })
    (fields_known told are n arrays t few (slot + cells_at s.place) ss (All-tail (IsSite n arrays) s ss known)
    (All-tail (λ (g : StaticRec). IsDeclared t g.ty) f others declared))

pub statics_typed : (told : ℕ → TypeItem → Ty) → AreTold told → (ps : List PackageRecord) → All AreStaticsKnown ps → (fields : List StaticRec)
    → fields ≡ static_records told ps
    → length (array_records ps) ≤ 4096 → (t : ClassTable) → AreDeclared t fields → All (IsStatic (length ps) t (array_records ps)) fields
statics_typed told are ps known fields e few t declared =
    subst (λ fs. All (IsStatic (length ps) t (array_records ps)) fs) (sym e)
    (fields_known told are (length ps) (array_records ps) t few 0 (sites ps)
    (sites_known (length ps) (array_records ps) ps 0 1 [] refl refl (omega arith) known) (subst (AreDeclared t) e declared))
