-- Pool entries name the same members.
use Rattle.std.proofs.Common.{◌≡◌, ◌≤◌, ◌<◌, ◌+◌, ℕ, List, [], ◌∷◌, length, take, map, flat_map}
use Rattle.std.proofs.Common.{Option, Some, None, option_map, option_and_then, position, refl, sym, ap, ◌∙◌, arith, length-take}
use Rattle.std.specs.Prelude.{if◌then◌else◌}
use Rattle.cap_bytes.specs.declared.class_reference.ClassReference.{ClassReference}
use Rattle.cap_class.specs.ClassFormat.{Class, is_interface}
use Rattle.cap_desc.specs.declared.type_list.TypeItem.{TypeItem}
use Rattle.cap_desc.specs.DescriptorFormat as described
use Rattle.cap_pool.specs.PoolFormat.{Entry}
use Rattle.cap_pool.specs.declared.pool_record.PoolReference.{PoolReference}
use Rattle.cap_pool.specs.declared.pool_record.PoolReference.TheVariants.{StaticMethod}
use Rattle.cap_pool.specs.declared.pool_record.StaticReference.{StaticReference}
use Rattle.cap_pool.specs.declared.pool_record.StaticReference.TheVariants.{External}
use Rattle.cap_pool.specs.PoolReference.{referred}
use Rattle.cap_package.specs.Descriptions.{Description, field_type}
use Rattle.cap_package.specs.HeaderChecks.{is_static}
use Rattle.cap_package.specs.PackageRecord.{PackageRecord, names_interface}
use Rattle.cap_renewal.specs.ClassEdits.{renewed_class}
use Rattle.jc_base.specs.declared.record.Member.TheVariants.{ClassOf}
use Rattle.jc_base.specs.declared.record.StaticRec.{StaticRec}
use Rattle.jc_base.specs.Class.{ClassTable}
use Rattle.jc_decode.specs.declared.symbols.Laid.{Laid}
use Rattle.jc_link.specs.Entries.{place_in, exported_field, exported_method, exported_place, field_place, method_place}
use Rattle.jc_resolve.specs.OwnFields.{field_with, own_field, fields_in, own_fields}
use Rattle.jc_link.specs.Fields.{sites_of_classes, sites_after}
use Rattle.jc_link.specs.Members.{class_member, proper_by, proper_referred, virtual_by, virtual_member, super_of, super_member, static_member}
use Rattle.jc_link.specs.Members.{call_member, field_member, member_referred, member_of}
use Rattle.jc_resolve.specs.declared.fault.RecordPlace.{RecordPlace}
use Rattle.jc_resolve.specs.References.{meets_import, import_of, met_by, class_referred}
use Rattle.jc_resolve.proofs.NumberLaws.{position_below}
use Rattle.law_package.specs.Rewritten.{bare_class, IsRewritten}
use Rattle.law_package.proofs.Lists.{faults_same}
use Rattle.law_package.proofs.Bare.{same_field}
use Rattle.law_relink.specs.Last.{and_last}
use Rattle.law_relink.proofs.Lists.{get_earlier}
use Rattle.law_relink.proofs.Names.{met_same, referred_same}
use Rattle.law_relink.proofs.Places.{earlier_method}
use Rattle.law_relink.proofs.Classes.{type_same, flat_same, flat_bare}

module _ (ps : List PackageRecord) (p q : PackageRecord) (laid : List (Option Laid)) (r : IsRewritten p laid q) where
  abbrev now : List PackageRecord
  now = and_last ps q

  abbrev old : List PackageRecord
  old = and_last ps p

  -- ---- classes

  pub class_same : (k : ℕ) (c : ClassReference) → class_referred now k c ≡ class_referred old k c
  class_same k c = referred_same ps p q laid k c r

  class_member_same : (k : ℕ) (c : ClassReference) → class_member now k c ≡ class_member old k c
  unfolding class_member
  class_member_same k c = ap (option_map ClassOf) (class_same k c)

  proper_same : (t : ClassTable) (k : ℕ) (c : ClassReference) → proper_referred now t k c ≡ proper_referred old t k c
  unfolding proper_referred
  proper_same t k c = ap (option_and_then (proper_by t)) (class_same k c)

  virtual_same : (t : ClassTable) (k : ℕ) (c : ClassReference) (token : ℕ) → virtual_member now t k c token ≡ virtual_member old t k c token
  unfolding virtual_member
  virtual_same t k c token = ap (option_and_then (virtual_by t token)) (proper_same t k c)

  super_same : (t : ClassTable) (k : ℕ) (c : ClassReference) (token : ℕ) → super_member now t k c token ≡ super_member old t k c token
  unfolding super_member
  super_same t k c token = ap (option_and_then (super_of t token)) (proper_same t k c)

  -- ---- instance fields

  field_by : (n k : ℕ) (f : described.FieldDescriptor) (o : Option TypeItem) → option_map (field_with now n k f) o
      ≡ option_map (field_with old n k f) o
  field_by n k f x = grind (arith, type_same)

  field_same : (n k : ℕ) (d : Description) (f : described.FieldDescriptor) → own_field now n k d f ≡ own_field old n k d f
  unfolding own_field
  field_same n k d f = ap (λ o. if is_static f.flags then None else o) (field_by n k f (field_type d f.ty))

  fields_same : (n k : ℕ) (d : Description) (offset : ℕ) (c : described.ClassDescriptor)
      → fields_in now n k d offset c ≡ fields_in old n k d offset c
  fields_same n k d offset c = grind (arith, faults_same, field_same)

  own_same : (n k : ℕ) (x : PackageRecord) (c : Class) → own_fields now n k x c ≡ own_fields old n k x c
  unfolding own_fields
  own_same n k x c = grind (arith, flat_same, fields_same)

  field_stays : (n k : ℕ) (f : described.FieldDescriptor) → own_field old n k q.description f ≡ own_field old n k p.description f
  unfolding own_field
  field_stays n k f = grind (arith, option_map, same_field)

  fields_stay : (n k offset : ℕ) (c : described.ClassDescriptor) → fields_in old n k q.description offset c
      ≡ fields_in old n k p.description offset c
  fields_stay n k offset c = grind (arith, faults_same, field_stays)

  own_stays : (n k : ℕ) (f : ℕ → ℕ) (c : Class) → own_fields old n k q (renewed_class f c) ≡ own_fields old n k p c
  unfolding own_fields
  own_stays n k f c =
      let set = names_interface p.classes in
      let e = fields_in old n k q.description c.offset in
      ap (λ fs. if is_interface c.flags then [] else fs)
      (flat_bare e (bare_class set) q.description.items.classes (λ x. refl)
      ∙ ap (flat_map e) r.description.classes
      ∙ sym (flat_bare e (bare_class set) p.description.items.classes (λ x. refl))
      ∙ flat_same e (fields_in old n k p.description c.offset) p.description.items.classes (fields_stay n k c.offset))

  earlier_sites : (t : ClassTable) (k : ℕ) (x : PackageRecord) (c : ℕ) (rs : List Class)
      → sites_of_classes now t k x c rs ≡ sites_of_classes old t k x c rs
  earlier_sites t k x c [] = refl
  earlier_sites t k x c (y ∷ rs) = grind (arith, own_same, earlier_sites t k x (c + 1) rs)

  last_sites : (t : ClassTable) (k c : ℕ) (f : ℕ → ℕ) (rs : List Class) → sites_of_classes now t k q c (map (renewed_class f) rs)
      ≡ sites_of_classes old t k p c rs
  last_sites t k c f [] = refl
  last_sites t k c f (y ∷ rs) = grind (arith, map, own_same, own_stays, last_sites t k (c + 1) f rs)

  all_sites : (t : ClassTable) (c k : ℕ) (xs : List PackageRecord) → sites_after now t c k (and_last xs q)
      ≡ sites_after old t c k (and_last xs p)
  all_sites t c k [] = grind (arith, last_sites)
  all_sites t c k (x ∷ xs) = grind (arith, length, earlier_sites, all_sites t (c + length x.classes) (k + 1) xs)

  instance_same : (t : ClassTable) (k : ℕ) (c : ClassReference) (token : ℕ) → field_member now t k c token ≡ field_member old t k c token
  unfolding field_member
  instance_same t k c token = grind (arith, option_and_then, all_sites, proper_same)

  -- ---- what other packages export

  met_earlier : (k token j : ℕ) → k ≤ length ps → met_by old k token ≡ Some j → j < length ps
  unfolding met_by
  met_earlier k token j le e = by (import_of old k token) e
    where
      by : (o : Option _) → option_and_then (λ asked. position (meets_import asked) (take k old)) o ≡ Some j → j < length ps
      by None f = absurd cc
      by (Some asked) f =
          let below = position_below (meets_import asked) (take k old) j f in
          let long = length-take k old in
          omega (arith, below, long, le)

  exported_same : {Y : Type 0} (a b : ℕ → ℕ → ℕ → Option ℕ) (f g : RecordPlace → Option Y) (k asked class token : ℕ) → k ≤ length ps
      → ((j class token : ℕ) → j < length ps → a j class token ≡ b j class token)
      → ((j offset : ℕ) → j < length ps → f (place_in j offset) ≡ g (place_in j offset))
      → option_and_then f (exported_place now a k asked class token) ≡ option_and_then g (exported_place old b k asked class token)
  exported_same {Y = Y} a b f g k asked class token le same alike =
      ap (λ o. option_and_then f (option_and_then (λ j. option_map (place_in j) (a j class token)) o))
      (met_same ps p q k asked r.header r.imports) ∙ by (met_by old k asked) refl
    where
      at : (j : ℕ) (o : Option ℕ) → j < length ps → option_and_then f (option_map (place_in j) o) ≡ option_and_then g (option_map (place_in j) o)
      at j None lt = refl
      at j (Some offset) lt = alike j offset lt

      by : (o : Option ℕ) → met_by old k asked ≡ o → option_and_then f (option_and_then (λ j. option_map (place_in j) (a j class token)) o)
          ≡ option_and_then g (option_and_then (λ j. option_map (place_in j) (b j class token)) o)
      by x m = grind (arith, met_earlier, option_and_then, option_map)

  fields_exported : (j class token : ℕ) → j < length ps → exported_field now j class token ≡ exported_field old j class token
  fields_exported j class token lt = grind (arith, option_and_then, get_earlier)

  methods_exported : (j class token : ℕ) → j < length ps → exported_method now j class token ≡ exported_method old j class token
  methods_exported j class token lt = grind (arith, option_and_then, get_earlier)

  -- ---- static fields

  static_same : (statics : List StaticRec) (k : ℕ) (x : StaticReference) → k ≤ length ps
      → static_member now statics k x ≡ static_member old statics k x
  unfolding static_member field_place
  static_same statics k x le = grind (arith, exported_same, fields_exported)

  -- ---- methods without dispatch

  -- the number of the method of another package, and of one that a package names of its own
  pub other_call : (k asked class token : ℕ) → k ≤ length ps
      → call_member now k (External asked class token) ≡ call_member old k (External asked class token)
  unfolding call_member method_place
  other_call k asked class token le = grind (arith, option_map, exported_same, methods_exported, earlier_method)

  earlier_call : (k : ℕ) (x : StaticReference) → k < length ps → call_member now k x ≡ call_member old k x
  unfolding call_member method_place
  earlier_call k x lt = grind (arith, option_map, earlier_method, other_call)

  -- ---- all kinds

  -- which method is called
  abbrev pub IsSameCall : ℕ → PoolReference → Type 0
  IsSameCall k (StaticMethod x) = call_member now k x ≡ call_member old k x
  IsSameCall k other = Unit {0}

  referred_same_by : (t : ClassTable) (statics : List StaticRec) (k : ℕ) (x : PoolReference) → k ≤ length ps → IsSameCall k x
      → member_referred now t statics k x ≡ member_referred old t statics k x
  referred_same_by t statics k x le call = grind (arith, class_member_same, instance_same, virtual_same, super_same, static_same)

  pub members_same : (t : ClassTable) (statics : List StaticRec) (k : ℕ) (e : Entry) → k ≤ length ps
      → IsSameCall k (referred e) → member_of now t statics k e ≡ member_of old t statics k e
  unfolding member_of
  members_same t statics k e le call = referred_same_by t statics k (referred e) le call

  calls_same : (k : ℕ) (x : PoolReference) → k < length ps → IsSameCall k x
  calls_same k other lt = grind (arith, earlier_call)

  pub earlier_member : (t : ClassTable) (statics : List StaticRec) (k : ℕ) (e : Entry) → k < length ps
      → member_of now t statics k e ≡ member_of old t statics k e
  earlier_member t statics k e lt = members_same t statics k e (omega arith) (calls_same k (referred e) lt)

-- a StaticMethodref names what is called
pub call_is : (xs : List PackageRecord) (t : ClassTable) (statics : List StaticRec) (k : ℕ) (e : Entry) (x : StaticReference)
    → referred e ≡ StaticMethod x
    → member_of xs t statics k e ≡ call_member xs k x
unfolding member_of
call_is xs t statics k e x is = ap (member_referred xs t statics k) is
