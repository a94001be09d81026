-- What holds of the static fields of a package, since its parts agree.
use Rattle.std.proofs.Common.{◌≡◌, ℕ, ◌+◌, ◌*◌, ◌≤◌, Bool, true, ◌||◌, ltb, eqb, cond, min, max, List, []}
use Rattle.std.proofs.Common.{◌∷◌, ◌++◌, map, Option, Some, None, refl, sym, ◌∙◌, arith}
use Rattle.std.specs.Prelude.{All, slice_get}
use Rattle.std.specs.List.{filter_map, cons_option}
use Rattle.std.proofs.lemmas.Bool.{ltb-false, eqb-true}
use Rattle.std.proofs.lemmas.Option.{slice_get-map}
use Rattle.std.proofs.lemmas.List.Elements.{All-nil, All-cons}
use Rattle.cap_method.specs.StaticFormat.{Array, Statics}
use Rattle.cap_desc.specs.declared.type_list.TypeItem.{TypeItem}
use Rattle.cap_desc.specs.DescriptorFormat.{FieldDescriptor}
use Rattle.cap_components.specs.declared.fault.PackFault.{PackFault}
use Rattle.cap_components.specs.declared.fault.PackFault.TheVariants.{StaticOutside}
use Rattle.cap_components.specs.Descriptions.{Description, field_type}
use Rattle.cap_package.specs.HeaderChecks.{is_static}
use Rattle.cap_package.specs.StaticChecks.{ImagePlace, image_offset, place_by, place_in, is_in_image, image_fault, array_kinds, kind_at}
use Rattle.cap_package.specs.StaticChecks.{filled_fault, width_of, share_by, share_fault, share_pair}
use Rattle.cap_package.specs.Pairs.{pairs}
use Rattle.cap_components.specs.PackageRecord.{PackageRecord, fields}
use Rattle.cap_package.specs.Agreement.{IsPackage}
use Rattle.cap_package.specs.StaticPlaces.{static_places, IsStaticPlace, AreApart}
use Rattle.cap_package.proofs.FieldTypes.{IsFieldType, field_typed}
use Rattle.cap_package.proofs.OneRecord.{answer_is}
use Rattle.cap_package.proofs.Agreed.{agrees}

-- ---- where nothing is at fault, each thing is right

abbrev NoneOf : {X Y : Type 0} → (X → Option Y) → List X → Type 0
NoneOf f [] = Unit {0}
NoneOf f (x ∷ xs) = (f x ≡ None) × NoneOf f xs

none_first : {X Y : Type 0} (f : X → Option Y) (xs : List X) (o : Option Y) → (filter_map f xs ≡ [] → NoneOf f xs)
    → cons_option o (filter_map f xs) ≡ [] → (o ≡ None) × NoneOf f xs
none_first f xs x known h = grind (arith)

none_of : {X Y : Type 0} (f : X → Option Y) (xs : List X) → filter_map f xs ≡ [] → NoneOf f xs
none_of f [] h = tt {0}
none_of f (x ∷ xs) h = none_first f xs (f x) (none_of f xs) h

pub both_empty : {X : Type 0} (xs ys : List X) → xs ++ ys ≡ [] → (xs ≡ []) × (ys ≡ [])
both_empty [] ys h = (refl, h)
both_empty (x ∷ xs) ys h = absurd cc

pub three_empty : {X : Type 0} (xs ys zs : List X) → (xs ++ ys) ++ zs ≡ [] → (xs ≡ []) × (ys ≡ []) × (zs ≡ [])
three_empty xs ys zs h = grind (arith, both_empty)

none_front : {X Y : Type 0} (f : X → Option Y) (xs ys : List X) → NoneOf f (xs ++ ys) → NoneOf f xs
none_front f [] ys h = tt {0}
none_front f (x ∷ xs) ys h = (h.0, none_front f xs ys h.1)

none_after : {X Y : Type 0} (f : X → Option Y) (xs ys : List X) → NoneOf f (xs ++ ys) → NoneOf f ys
none_after f [] ys h = h
none_after f (x ∷ xs) ys h = none_after f xs ys h.1

none_map : {W X Y : Type 0} (f : X → Option Y) (g : W → X) (ws : List W) → NoneOf f (map g ws) → NoneOf (λ w. f (g w)) ws
none_map f g [] h = tt {0}
none_map f g (w ∷ ws) h = (h.0, none_map f g ws h.1)

-- ---- the place of a field

record IsPlaceOf (f : FieldDescriptor) (t : TypeItem) (p : ImagePlace) : Type 0 where
  offset : p.offset ≡ image_offset f
  ty : p.ty ≡ t

static_by : (f : FieldDescriptor) (t : TypeItem) (p : ImagePlace) (b : Bool) → cond b (Some (record { offset = image_offset f; ty = t })) None ≡ Some p
    → IsPlaceOf f t p
static_by f t p x h = grind (arith)

record ComesFrom (d : Description) (f : FieldDescriptor) (p : ImagePlace) : Type 0 where
  offset : p.offset ≡ image_offset f
  typed : IsFieldType p.ty

place_from : (d : Description) (f : FieldDescriptor) (p : ImagePlace) (o : Option TypeItem) → field_type d f.ty ≡ o → place_by f o ≡ Some p
    → ComesFrom d f p
place_from d f p None e h = absurd cc
place_from d f p (Some t) e h = grind (arith, static_by f t p (is_static f.flags) h, field_typed d f.ty t e)

inside_by : (s : Statics) (p : ImagePlace) (fault : PackFault) (b : Bool) → is_in_image s p ≡ b → cond b None (Some fault) ≡ None
    → is_in_image s p ≡ true
inside_by s p fault x e h = grind (arith)

-- the initial array with a number fills the reference at twice that number
fills_at : (arrays : List Array) (k : ℕ) (a : Array) → slice_get arrays k ≡ Some a → kind_at (array_kinds arrays) (2 * k) ≡ Some a.kind
unfolding kind_at
fills_at arrays k a e = grind (arith, slice_get-map)

filled_at : (arrays : List Array) (d : Description) (f : FieldDescriptor) (p : ImagePlace) (k : ℕ) (a : Array) → place_in d f ≡ Some p
    → image_offset f ≡ 2 * k → slice_get arrays k ≡ Some a → filled_fault (array_kinds arrays) d f ≡ None → p.ty.nibble ≡ a.kind + 8
unfolding filled_fault
filled_at arrays d f p k a e at there h = grind (arith, fills_at, eqb, eqb-true)

place_known : (s : Statics) (d : Description) (f : FieldDescriptor) (p : ImagePlace) → place_in d f ≡ Some p → image_fault s d f ≡ None
    → filled_fault (array_kinds s.arrays) d f ≡ None → IsStaticPlace s p
unfolding place_in image_fault
place_known s d f p e image fills =
    let from = place_from d f p (field_type d f.ty) refl e in
    record {
      typed = from.typed.typed;
      no_void = from.typed.no_void;
      inside = inside_by s p (StaticOutside p.offset) (is_in_image s p) refl (rw e at image);
      filled = λ k a there at. filled_at s.arrays d f p k a e (sym from.offset ∙ at) there fills;
    }

place_first : (s : Statics) (d : Description) (f : FieldDescriptor) (fs : List FieldDescriptor) (o : Option ImagePlace) → place_in d f ≡ o
    → image_fault s d f ≡ None → filled_fault (array_kinds s.arrays) d f ≡ None → All (IsStaticPlace s) (filter_map (place_in d) fs)
    → All (IsStaticPlace s) (cons_option o (filter_map (place_in d) fs))
place_first s d f fs None e image fills others = others
place_first s d f fs (Some p) e image fills others = All-cons (IsStaticPlace s) p (filter_map (place_in d) fs) (place_known s d f p e image fills) others

places_known : (s : Statics) (d : Description) (fs : List FieldDescriptor) → NoneOf (image_fault s d) fs
    → NoneOf (filled_fault (array_kinds s.arrays) d) fs → All (IsStaticPlace s) (filter_map (place_in d) fs)
places_known s d [] images fills = All-nil (IsStaticPlace s)
places_known s d (f ∷ fs) images fills = place_first s d f fs (place_in d f) refl images.0 fills.0 (places_known s d fs images.1 fills.1)

-- the static fields of a package lie where they must
pub statics_known : (p : PackageRecord) → IsPackage p → All (IsStaticPlace p.statics) (static_places p)
statics_known p h =
    let agreed = agrees p.parts p (answer_is p.parts p h).agree in
    let (inside, filled) = both_empty _ _ agreed.places in
    places_known p.statics p.description (fields p) (none_of (image_fault p.statics p.description) (fields p) inside)
    (none_of (filled_fault (array_kinds p.statics.arrays) p.description) (fields p) filled)

-- ---- fields that share no byte stand apart

one_byte : (a b c : Bool) → 1 ≤ cond (a || b) 1 (cond c 4 2)
one_byte x b c = grind (arith)

pub takes_byte : (t : TypeItem) → 1 ≤ width_of t
takes_byte t = one_byte (eqb t.nibble 2) (eqb t.nibble 3) (eqb t.nibble 5)

apart_by : (p q : ImagePlace) (fault : PackFault) (b : Bool) → ltb (max p.offset q.offset) (min (p.offset + width_of p.ty) (q.offset + width_of q.ty))
    ≡ b → cond b (Some fault) None ≡ None → p.offset ≡ q.offset → ⊥
apart_by p q fault x e h same = grind (arith, ltb-false, max, min, takes_byte)

abbrev IsApart : ImagePlace → ImagePlace → Type 0
IsApart p q = p.offset ≡ q.offset → ⊥

next_apart : (d : Description) (p : ImagePlace) (fs : List FieldDescriptor) (o : Option ImagePlace) → share_by (Some p) o ≡ None
    → All (IsApart p) (filter_map (place_in d) fs) → All (IsApart p) (cons_option o (filter_map (place_in d) fs))
next_apart d p fs x h others = grind (arith, apart_by, min, max, ltb)

others_apart : (d : Description) (p : ImagePlace) (fs : List FieldDescriptor) → NoneOf (share_fault d (Some p)) fs
    → All (IsApart p) (filter_map (place_in d) fs)
unfolding share_fault
others_apart d p [] none = All-nil (IsApart p)
others_apart d p (f ∷ fs) none = next_apart d p fs (place_in d f) none.0 (others_apart d p fs none.1)

first_apart : (d : Description) (fs : List FieldDescriptor) (o : Option ImagePlace) → NoneOf (share_fault d o) fs
    → AreApart (filter_map (place_in d) fs) → AreApart (cons_option o (filter_map (place_in d) fs))
first_apart d fs x none others = grind (arith, others_apart)

all_apart : (d : Description) (fs : List FieldDescriptor) → NoneOf (share_pair d) (pairs fs) → AreApart (filter_map (place_in d) fs)
all_apart d [] none = tt {0}
all_apart d (f ∷ fs) none =
    first_apart d fs (place_in d f) (none_map (share_pair d) (λ g. (f, g)) fs (none_front (share_pair d) (map (λ g. (f, g)) fs) (pairs fs) none))
    (all_apart d fs (none_after (share_pair d) (map (λ g. (f, g)) fs) (pairs fs) none))

-- the static fields of a package share no byte
pub statics_apart : (p : PackageRecord) → IsPackage p → AreApart (static_places p)
statics_apart p h = grind (arith, agrees p.parts p (answer_is p.parts p h).agree, all_apart, none_of)
