-- The fields of packages, each with its type: step by step, and found by package and class.
use Rattle.std.proofs.Common.{◌≡◌, ℕ, zero, suc, ◌+◌, ◌<◌, Bool, true, false, cond, List, [], ◌∷◌, ◌++◌, append_assoc, map}
use Rattle.std.proofs.Common.{filter_map, flat_map, Option, Some, None, find, option_map, option_and_then, refl, sym, ap, ◌∙◌, arith}
use Rattle.std.specs.Prelude.{slice_get, if◌then◌else◌, IfSome}
use Rattle.std.specs.List.{cons_option}
use Rattle.std.specs.Option.{option_to_list}
use Rattle.std.proofs.lemmas.Bool.{ltb-true, ltb-false}
use Rattle.std.proofs.lemmas.List.Elements.{filter_map-append}
use Rattle.std.proofs.lemmas.Option.{slice_get-map}
use Rattle.cap_class.specs.ClassFormat.{Class, is_interface}
use Rattle.cap_desc.specs.declared.type_list.TypeItem.{TypeItem}
use Rattle.cap_desc.specs.DescriptorFormat.{ClassDescriptor, FieldDescriptor}
use Rattle.cap_desc.specs.Members.{fields_of}
use Rattle.cap_package.specs.Agreement.{or_none}
use Rattle.cap_package.specs.Descriptions.{Description}
use Rattle.cap_package.specs.HeaderChecks.{is_static}
use Rattle.cap_package.specs.PackageRecord.{PackageRecord}
use Rattle.cap_package.specs.StaticChecks.{ImagePlace, image_offset, place_by, place_in}
use Rattle.cap_package.specs.StaticPlaces.{static_places}
use Rattle.jc_base.specs.declared.ty.Ty.{Ty}
use Rattle.jc_resolve.specs.declared.field_records.OwnField.{OwnField}
use Rattle.jc_resolve.specs.declared.field_records.PackageFields.{PackageFields}
use Rattle.jc_resolve.specs.Described.{describes_at, IsDescribedOnce, place_at, spot_of_record}
use Rattle.jc_resolve.specs.Numbers.{none_numbered, number_by_place, with_all}
use Rattle.jc_resolve.specs.OwnFields.{fields_in, own_fields}
use Rattle.jc_resolve.specs.References.{is_internal}
use Rattle.jc_resolve.specs.TypedFields.{static_by, static_type, fields_of_record, fields_resolved}
use Rattle.jc_resolve.specs.TypedFields.{fields_after, own_found, types_kept, own_kept}
use Rattle.jc_resolve.specs.TypedFields.{static_field_types_by, static_field_types, own_fields_by, own_fields_in}
use Rattle.jc_resolve.specs.WorldTypes.{type_of}
use Rattle.jc_resolve.proofs.Describing.{given-there, given-none, given-outside, record-found}

-- ---- field by field, record by record, package by package

pub field_step : {X Y : Type 0} (f : X → Option Y) (ys : List Y) (x : X) (xs : List X)
    → ys ++ filter_map f (x ∷ xs) ≡ (ys ++ option_to_list (f x)) ++ filter_map f xs
field_step {Y = Y} f ys x xs = by (f x)
  where
    by : (o : Option Y) → ys ++ cons_option o (filter_map f xs) ≡ (ys ++ option_to_list o) ++ filter_map f xs
    by None = sym (append_assoc ys [] (filter_map f xs))
    by (Some y) = sym (append_assoc ys (y ∷ []) (filter_map f xs))

pub record_step : {Y : Type 0} (f : FieldDescriptor → Option Y) (ys : List Y) (c : ClassDescriptor) (cs : List ClassDescriptor)
    → ys ++ filter_map f (fields_of (c ∷ cs)) ≡ (ys ++ filter_map f c.fields) ++ filter_map f (fields_of cs)
record_step f ys c cs = grind (arith, filter_map-append, append_assoc, filter_map)

pub fields_step : (ps : List PackageRecord) (object k : ℕ) (p : PackageRecord) (qs : List PackageRecord) (xs : List PackageFields)
    → xs ++ fields_after ps object k (p ∷ qs) ≡ (xs ++ fields_resolved ps object k p ∷ []) ++ fields_after ps object (k + 1) qs
fields_step ps object k p qs xs = sym (append_assoc xs (fields_resolved ps object k p ∷ []) (fields_after ps object (k + 1) qs))

-- ---- the fields of the package with a number

pub at_number : (ps : List PackageRecord) (object k : ℕ) (qs : List PackageRecord) (n : ℕ) → slice_get (fields_after ps object k qs) n
    ≡ option_map (fields_resolved ps object (k + n)) (slice_get qs n)
at_number ps object k [] n = refl
at_number ps object k (q ∷ qs) zero = let e : k ≡ k + 0 = omega arith in ap (λ m. Some (fields_resolved ps object m q)) e
at_number ps object k (q ∷ qs) (suc n) = grind (arith, suc, option_map, at_number ps object (k + 1) qs n)

module _ (ps : List PackageRecord) (object k : ℕ) where
  -- ---- static fields

  typed_at : (f : FieldDescriptor) (o : Option TypeItem) → static_by ps object k f o ≡ option_map (λ (p : ImagePlace). type_of ps object k p.ty)
      (place_by f o)
  typed_at f None = refl
  typed_at f (Some t) = by (is_static f.flags) (record { offset = image_offset f; ty = t })
    where
      by : (b : Bool) (x : ImagePlace) → (if b then Some (type_of ps object k x.ty) else None)
          ≡ option_map (λ (p : ImagePlace). type_of ps object k p.ty) (if b then Some x else None)
      by true x = refl
      by false x = refl

  typed_by : (d : Description) (o : Option ImagePlace) (places : List ImagePlace) (types : List Ty)
      → types ≡ map (λ (p : ImagePlace). type_of ps object k p.ty) places
      → cons_option (option_map (λ (p : ImagePlace). type_of ps object k p.ty) o) types ≡ map (λ (p : ImagePlace). type_of ps object k p.ty)
      (cons_option o places)
  typed_by d y places types e = grind (arith)

  pub places_typed : (d : Description) (fs : List FieldDescriptor) → filter_map (static_type ps object k d) fs
      ≡ map (λ (p : ImagePlace). type_of ps object k p.ty) (filter_map (place_in d) fs)
  unfolding static_type place_in
  places_typed d [] = refl
  places_typed d (f ∷ fs) = grind (arith, filter_map, typed_by, places_typed d fs)

  -- ---- instance fields

  found_by : (p : PackageRecord) (c : Class) → IsDescribedOnce p.description.items.classes c → (o : Option ClassDescriptor)
      → find (describes_at c.offset) p.description.items.classes ≡ o → c.offset < 0x8000
      → or_none (option_map (fields_of_record ps object k p.description) o) ≡ flat_map (fields_in ps object k p.description c.offset)
      p.description.items.classes
  found_by p c once None e lt = sym (given-none (fields_of_record ps object k p.description) p.description.items.classes c.offset lt e)
  found_by p c once (Some d) e lt = sym (given-there (fields_of_record ps object k p.description) p.description.items.classes c.offset d lt once e)

  taken_at : (ds : List ClassDescriptor) (f : ClassDescriptor → List OwnField) (o : Option ℕ) → option_and_then (slice_get (map f ds)) o
      ≡ option_map f (option_and_then (slice_get ds) o)
  taken_at ds f z = grind (arith, slice_get-map)

  -- what is found of a class that is described once are its fields
  pub own-is : (p : PackageRecord) (c : Class) → IsDescribedOnce p.description.items.classes c → own_found (fields_resolved ps object k p) c.offset
      ≡ flat_map (fields_in ps object k p.description c.offset) p.description.items.classes
  unfolding own_found fields_resolved
  own-is p c once = by (is_internal c.offset) refl
    where
      ds : List ClassDescriptor
      ds = p.description.items.classes

      by : (b : Bool) → is_internal c.offset ≡ b
          → cond b
          (or_none
          (option_and_then (slice_get (map (fields_of_record ps object k p.description) ds))
          (number_by_place (with_all none_numbered (map spot_of_record ds)).entries (place_at c.offset)))) []
          ≡ flat_map (fields_in ps object k p.description c.offset) ds
      by true e =
          ap or_none
          (taken_at ds (fields_of_record ps object k p.description)
          (number_by_place (with_all none_numbered (map spot_of_record ds)).entries (place_at c.offset))
          ∙ ap (option_map (fields_of_record ps object k p.description)) (record-found ds c.offset))
          ∙ found_by p c once (find (describes_at c.offset) ds) refl (ltb-true c.offset 0x8000 e)
      by false e = sym (given-outside (fields_of_record ps object k p.description) ds c.offset (ltb-false c.offset 0x8000 e))

  -- ---- by the number of the package

  number_there : slice_get (fields_after ps object 0 ps) k ≡ option_map (fields_resolved ps object k) (slice_get ps k)
  number_there = let e : 0 + k ≡ k = omega arith in at_number ps object 0 ps k ∙ ap (λ n. option_map (fields_resolved ps object n) (slice_get ps k)) e

  pub static_kept : types_kept (fields_after ps object 0 ps) k ≡ static_field_types ps object k
  unfolding static_field_types fields_resolved
  static_kept = ap (λ (o : Option PackageFields). or_none (option_map (λ (x : PackageFields). x.statics) o)) number_there ∙ by (slice_get ps k)
    where
      by : (o : Option PackageRecord) → or_none (option_map (λ (x : PackageFields). x.statics) (option_map (fields_resolved ps object k) o))
          ≡ static_field_types_by ps object k o
      by None = refl
      by (Some p) = places_typed p.description (fields_of p.description.items.classes)

  nothing : (b : Bool) (own : List OwnField) → own ≡ [] → cond b [] own ≡ []
  nothing x own e = grind (arith)

  pub own_are_kept : (c : Class) → IfSome (slice_get ps k) (λ (p : PackageRecord). IsDescribedOnce p.description.items.classes c)
      → own_kept (fields_after ps object 0 ps) k c ≡ own_fields_in ps object k c
  unfolding own_kept own_fields_in own_fields
  own_are_kept c once =
      ap (λ (o : Option PackageFields). cond (is_interface c.flags) [] (or_none (option_map (λ (x : PackageFields). own_found x c.offset) o))) number_there
      ∙ by (slice_get ps k) once
    where
      by : (o : Option PackageRecord) → IfSome o (λ (p : PackageRecord). IsDescribedOnce p.description.items.classes c)
          → cond (is_interface c.flags) []
          (or_none (option_map (λ (x : PackageFields). own_found x c.offset) (option_map (fields_resolved ps object k) o))) ≡ own_fields_by ps object
          k c o
      by None described = nothing (is_interface c.flags) [] refl
      by (Some p) described = ap (λ (own : List OwnField). cond (is_interface c.flags) [] own) (own-is p c described)

-- where the package is known
pub static_types_known : (ps : List PackageRecord) (object k : ℕ) (p : PackageRecord) → slice_get ps k ≡ Some p
    → static_field_types ps object k ≡ map (λ (f : ImagePlace). type_of ps object k f.ty) (static_places p)
unfolding static_field_types
static_types_known ps object k p e = ap (static_field_types_by ps object k) e

pub own_fields_known : (ps : List PackageRecord) (object k : ℕ) (p : PackageRecord) (c : Class) → slice_get ps k ≡ Some p
    → own_fields_in ps object k c ≡ own_fields ps object k p c
unfolding own_fields_in
own_fields_known ps object k p c e = ap (own_fields_by ps object k c) e
