-- Packages that are the same but for the order of the parts that they were read from make the same world.
use Rattle.std.proofs.Common.{arith}
use Rattle.std.proofs.Common.{◌≡◌, ◌+◌, ℕ, List, [], ◌∷◌, ◌++◌, length, map, flat_map, filter_map, sum_by, slice_get, Option, Some, None, option_map}
use Rattle.std.proofs.Common.{option_and_then, option_to_list, slice_index, refl, sym, ap, subst, ◌∙◌}
use Rattle.std.specs.Prelude.{if◌then◌else◌, nat_lt, count_by}
use Rattle.std.proofs.lemmas.List.Folds.{flat_map-map}
use Rattle.std.proofs.lemmas.Simd.{map-map}
use Rattle.first_fault.specs.First.{AllEmpty}
use Rattle.cap_bytes.specs.declared.class_reference.ClassReference.{ClassReference}
use Rattle.cap_class.specs.ClassFormat.{Class}
use Rattle.cap_desc.specs.DescriptorFormat as described
use Rattle.cap_pool.specs.PoolFormat.{Entry}
use Rattle.cap_pool.specs.declared.pool_record.PoolReference.{PoolReference}
use Rattle.cap_pool.specs.declared.pool_record.StaticReference.{StaticReference}
use Rattle.cap_pool.specs.PoolReference.{referred}
use Rattle.cap_package.specs.Descriptions.{Description}
use Rattle.cap_package.specs.PackageRecord.{PackageRecord, initial_arrays}
use Rattle.cap_package.specs.StaticPlaces.{static_places}
use Rattle.cap_index.specs.Component.{index_in, lists_in}
use Rattle.cap_index.specs.Indexes.{is_coded, lists_after, package_lists, indexes_after, indexes_of}
use Rattle.jc_base.specs.declared.record.Member.{Member}
use Rattle.jc_base.specs.declared.record.Member.TheVariants.{ClassOf, StaticCall}
use Rattle.jc_base.specs.declared.record.MethodRec.{MethodRec}
use Rattle.jc_base.specs.declared.record.StaticRec.{StaticRec}
use Rattle.jc_base.specs.Class.{ClassTable, object}
use Rattle.jc_base.specs.World.{Linked}
use Rattle.jc_resolve.specs.declared.fault.LinkFault.TheVariants.{TooManyStatics}
use Rattle.jc_resolve.specs.Named.{infos_of}
use Rattle.jc_resolve.specs.NamedClasses.{describes}
use Rattle.jc_resolve.specs.OwnFields.{own_field, fields_in, own_fields}
use Rattle.jc_classes.specs.LineConditions as lineage
use Rattle.jc_classes.specs.Outline.{outline}
use Rattle.jc_classes.specs.TableConditions as classes
use Rattle.jc_classes.specs.Tables.{class_tables}
use Rattle.jc_link.specs.Arrays.{array_record, array_records}
use Rattle.jc_link.specs.Catches.{class_caught, class_caught_by, catches_throwable, handlers_from, handlers_after}
use Rattle.jc_link.specs.Catches.{catch_fault, bad_catches}
use Rattle.jc_link.specs.Entries.{field_place, method_place}
use Rattle.jc_link.specs.Fields.{class_sites, sites_of_classes, sites_after}
use Rattle.jc_link.specs.Members.{class_member, proper_by, proper_referred, virtual_by, virtual_member, super_of, super_member, static_at, static_member}
use Rattle.jc_link.specs.Members.{call_member, field_of, field_member, member_referred, member_of}
use Rattle.jc_link.specs.Pools.{places_from, places_after, member_fault, missing_members, pools_after, pools}
use Rattle.jc_link.specs.Roles.{abstract_roles}
use Rattle.jc_link.specs.Room.{statics_fault, arrays_fault}
use Rattle.jc_link.specs.Statics as statics
use Rattle.jc_link.specs.World.{classes_of, table_of, methods_of, statics_of, table_conditions, member_conditions}
use Rattle.jc_link.specs.World.{conditions, IsLinked}
use Rattle.law_stored.proofs.NamesAlike.{bare, all_bare, method_at_bare, met_bare, exported_field_bare, exported_method_bare}
use Rattle.law_stored.proofs.NamesAlike.{referred_bare, type_bare, named_classes_bare, named_methods_bare, names_bare}

-- ---- lists over packages

sites_bare : (home first : ℕ) (ps : List PackageRecord) → statics.sites_after home first (all_bare ps) ≡ statics.sites_after home first ps
sites_bare home first [] = refl
sites_bare home first (p ∷ ps) =
    λ i. map (statics.site home first p.statics) (static_places p) ++ sites_bare (home + 1) (first + length p.statics.arrays) ps i

handlers_bare : (k : ℕ) (ps : List PackageRecord) → handlers_after k (all_bare ps) ≡ handlers_after k ps
handlers_bare k [] = refl
handlers_bare k (p ∷ ps) = λ i. handlers_from k p.pool 0 p.methods.handlers ++ handlers_bare (k + 1) ps i

places_bare : (k : ℕ) (ps : List PackageRecord) → places_after k (all_bare ps) ≡ places_after k ps
places_bare k [] = refl
places_bare k (p ∷ ps) = λ i. places_from k 0 p.pool ++ places_bare (k + 1) ps i

pools_carried : (named : ℕ → Entry → Option Member) (k : ℕ) (ps : List PackageRecord) → pools_after named k (all_bare ps) ≡ pools_after named k ps
pools_carried named k [] = refl
pools_carried named k (p ∷ ps) = λ i. filter_map (named k) p.pool ∷ pools_carried named (k + 1) ps i

pub infos_bare : (ps : List PackageRecord) → infos_of (all_bare ps) ≡ infos_of ps
infos_bare ps = map-map (λ (p : PackageRecord). p.methods.info) bare ps

pub arrays_bare : (ps : List PackageRecord) → array_records (all_bare ps) ≡ array_records ps
arrays_bare ps = ap (map array_record) (flat_map-map initial_arrays bare ps)

module _ (ps : List PackageRecord) where
  abbrev now : List PackageRecord
  now = all_bare ps

  -- ---- static fields

  cells_bare : statics.static_cells now ≡ statics.static_cells ps
  cells_bare = ap (sum_by statics.cells_at) (flat_map-map static_places bare ps)

  pub statics_bare : (roles : List ℕ) → statics_of now roles ≡ statics_of ps roles
  statics_bare roles = λ i. statics.records_from (λ k t. type_bare ps (slice_index roles 0) k t i) 0 (sites_bare 0 1 ps i)

  -- ---- classes and methods

  pub classes_are : (roles : List ℕ) → classes_of now roles ≡ classes_of ps roles
  classes_are roles = named_classes_bare ps (slice_index roles 0)

  pub table_bare : (roles : List ℕ) → table_of now roles ≡ table_of ps roles
  table_bare roles = ap (λ cs. class_tables (outline cs roles) cs) (classes_are roles)

  pub methods_are : (roles : List ℕ) → methods_of now roles ≡ methods_of ps roles
  methods_are roles = named_methods_bare ps roles

  -- ---- instance fields

  own_field_bare : (n k : ℕ) (d : Description) (f : described.FieldDescriptor) → own_field now n k d f ≡ own_field ps n k d f
  unfolding own_field
  own_field_bare n k d f = grind (arith, option_map, type_bare)

  fields_in_bare : (n k : ℕ) (d : Description) (offset : ℕ) (c : described.ClassDescriptor) → fields_in now n k d offset c ≡ fields_in ps n k d offset c
  fields_in_bare n k d offset c = λ i. if describes offset c then filter_map (λ f. own_field_bare n k d f i) c.fields else []

  own_fields_bare : (n k : ℕ) (p : PackageRecord) (c : Class) → own_fields now n k (bare p) c ≡ own_fields ps n k p c
  unfolding own_fields
  own_fields_bare n k p c = grind (arith, flat_map, fields_in_bare)

  class_sites_bare : (t : ClassTable) (k : ℕ) (p : PackageRecord) (c : ℕ) (rs : List Class)
      → sites_of_classes now t k (bare p) c rs ≡ sites_of_classes ps t k p c rs
  class_sites_bare t k p c [] = refl
  class_sites_bare t k p c (r ∷ rs) = λ i. class_sites t c (own_fields_bare (object t) k p r i) ++ class_sites_bare t k p (c + 1) rs i

  all_sites_bare : (t : ClassTable) (c k : ℕ) (rest : List PackageRecord) → sites_after now t c k (all_bare rest) ≡ sites_after ps t c k rest
  all_sites_bare t c k [] = refl
  all_sites_bare t c k (p ∷ rest) = λ i. class_sites_bare t k p c p.classes i ++ all_sites_bare t (c + length p.classes) (k + 1) rest i

  -- ---- members

  proper_bare : (t : ClassTable) (k : ℕ) (r : ClassReference) → proper_referred now t k r ≡ proper_referred ps t k r
  unfolding proper_referred
  proper_bare t k r = ap (option_and_then (proper_by t)) (referred_bare ps k r)

  class_member_bare : (k : ℕ) (r : ClassReference) → class_member now k r ≡ class_member ps k r
  unfolding class_member
  class_member_bare k r = ap (option_map ClassOf) (referred_bare ps k r)

  virtual_bare : (t : ClassTable) (k : ℕ) (r : ClassReference) (token : ℕ) → virtual_member now t k r token ≡ virtual_member ps t k r token
  unfolding virtual_member
  virtual_bare t k r token = ap (option_and_then (virtual_by t token)) (proper_bare t k r)

  super_bare : (t : ClassTable) (k : ℕ) (r : ClassReference) (token : ℕ) → super_member now t k r token ≡ super_member ps t k r token
  unfolding super_member
  super_bare t k r token = ap (option_and_then (super_of t token)) (proper_bare t k r)

  instance_bare : (t : ClassTable) (k : ℕ) (r : ClassReference) (token : ℕ) → field_member now t k r token ≡ field_member ps t k r token
  unfolding field_member
  instance_bare t k r token = λ i. option_and_then (field_of (all_sites_bare t 0 0 ps i) t token) (proper_bare t k r i)

  field_place_bare : (k : ℕ) (r : StaticReference) → field_place now k r ≡ field_place ps k r
  unfolding field_place
  field_place_bare k x = grind (arith, option_and_then, option_map, exported_field_bare, met_bare)

  method_place_bare : (k : ℕ) (r : StaticReference) → method_place now k r ≡ method_place ps k r
  unfolding method_place
  method_place_bare k x = grind (arith, option_and_then, option_map, exported_method_bare, met_bare)

  static_bare : (fields : List StaticRec) (k : ℕ) (r : StaticReference) → static_member now fields k r ≡ static_member ps fields k r
  unfolding static_member
  static_bare fields k r = ap (option_and_then (static_at fields)) (field_place_bare k r)

  call_bare : (k : ℕ) (r : StaticReference) → call_member now k r ≡ call_member ps k r
  unfolding call_member
  call_bare k r = λ i. option_map StaticCall (option_and_then (λ at. method_at_bare ps at i) (method_place_bare k r i))

  member_referred_bare : (t : ClassTable) (fields : List StaticRec) (k : ℕ) (r : PoolReference)
      → member_referred now t fields k r ≡ member_referred ps t fields k r
  member_referred_bare t fields k x = grind (arith, class_member_bare, instance_bare, virtual_bare, super_bare, static_bare, call_bare)

  member_bare : (t : ClassTable) (fields : List StaticRec) (k : ℕ) (e : Entry) → member_of now t fields k e ≡ member_of ps t fields k e
  unfolding member_of
  member_bare t fields k e = member_referred_bare t fields k (referred e)

  pub pools_bare : (t : ClassTable) (fields : List StaticRec) → pools now t fields ≡ pools ps t fields
  pools_bare t fields = pools_carried (member_of now t fields) 0 ps ∙ (λ i. pools_after (λ k e. member_bare t fields k e i) 0 ps)

  missing_bare : (t : ClassTable) (fields : List StaticRec) → missing_members now t fields ≡ missing_members ps t fields
  unfolding member_fault
  missing_bare t fields = grind (arith, member_bare, places_bare)

  -- ---- handlers

  caught_bare : (k : ℕ) (r : PoolReference) → class_caught now k r ≡ class_caught ps k r
  caught_bare k other = grind (arith, referred_bare)

  caught_by_bare : (k : ℕ) (o : Option Entry) → class_caught_by now k o ≡ class_caught_by ps k o
  caught_by_bare k x = grind (arith, caught_bare)

  catches_bare : (t : ClassTable) → bad_catches now t ≡ bad_catches ps t
  unfolding catch_fault catches_throwable
  catches_bare t = grind (arith, caught_by_bare, slice_get, handlers_bare)

  -- ---- conditions

  statics_room : statics_fault now ≡ statics_fault ps
  statics_room = ap (λ n. if nat_lt 32768 n then Some (TooManyStatics n) else None) cells_bare

  arrays_room : arrays_fault now ≡ arrays_fault ps
  arrays_room = grind (arith, length, arrays_bare)

  table_conditions_bare : (roles : List ℕ) → table_conditions now roles ≡ table_conditions ps roles
  table_conditions_bare roles = grind (arith, names_bare, classes_are, methods_are)

  member_conditions_bare : (roles : List ℕ) → member_conditions now roles ≡ member_conditions ps roles
  member_conditions_bare roles =
      λ i. option_to_list (statics_room i)
      ∷ missing_bare (table_bare roles i) (statics_bare roles i) i
      ∷ catches_bare (table_bare roles i) i
      ∷ option_to_list (arrays_room i)
      ∷ abstract_roles (table_bare roles i) (methods_are roles i)
      ∷ []

  pub conditions_bare : (roles : List ℕ) → conditions now roles ≡ conditions ps roles
  conditions_bare roles = λ i. table_conditions_bare roles i ++ member_conditions_bare roles i

-- ---- target indexes

-- the lists of indexes, from a package's number on
lists_of : List MethodRec → ℕ → List (Option (List ℕ)) → List (List (List ℕ))
lists_of methods k [] = []
lists_of methods k (index ∷ indexes) = lists_in (count_by (is_coded k) methods) index ∷ lists_of methods (k + 1) indexes

lists_are : (methods : List MethodRec) (k : ℕ) (ps : List PackageRecord) → lists_after methods k ps ≡ lists_of methods k (map index_in ps)
unfolding lists_of
lists_are methods k [] = refl
lists_are methods k (p ∷ ps) = λ i. lists_in (count_by (is_coded k) methods) (index_in p) ∷ lists_are methods (k + 1) ps i

-- ---- worlds

-- packages that are the same but for their parts, and have the same target indexes
pub record AreAlike (ps qs : List PackageRecord) : Type 0 where
  pub same : all_bare ps ≡ all_bare qs
  pub indexes : map index_in ps ≡ map index_in qs

module _ (ps qs : List PackageRecord) (alike : AreAlike ps qs) where
  -- what asks nothing of parts is the same
  told : {X : Type 0} (f : List PackageRecord → X) → ((xs : List PackageRecord) → f (all_bare xs) ≡ f xs) → f ps ≡ f qs
  told f unread = sym (unread ps) ∙ ap f alike.same ∙ unread qs

  methods_same : (roles : List ℕ) → methods_of ps roles ≡ methods_of qs roles
  methods_same roles = told (λ xs. methods_of xs roles) (λ xs. methods_are xs roles)

  lists_same : (methods : List MethodRec) → package_lists ps methods ≡ package_lists qs methods
  lists_same methods = lists_are methods 0 ps ∙ ap (lists_of methods 0) alike.indexes ∙ sym (lists_are methods 0 qs)

  indexes_same : (roles : List ℕ) → indexes_of ps (methods_of ps roles) ≡ indexes_of qs (methods_of qs roles)
  unfolding indexes_of
  indexes_same roles = λ i. indexes_after (lists_same (methods_same roles i) i) [] (methods_same roles i)

  -- they make the same world
  pub link_alike : (roles : List ℕ) (w : Linked) → IsLinked ps roles w → IsLinked qs roles w
  link_alike roles w l = record {
    faultless = subst AllEmpty (told (λ xs. conditions xs roles) (λ xs. conditions_bare xs roles)) l.faultless;
    lists = record {
      infos = l.lists.infos ∙ told infos_of infos_bare;
      pools = l.lists.pools ∙ told (λ xs. pools xs (table_of xs roles) (statics_of xs roles))
          (λ xs i. pools_bare xs (table_bare xs roles i) (statics_bare xs roles i) i);
      classes = l.lists.classes ∙ told (λ xs. table_of xs roles) (λ xs. table_bare xs roles);
      methods = l.lists.methods ∙ methods_same roles;
      statics = l.lists.statics ∙ told (λ xs. statics_of xs roles) (λ xs. statics_bare xs roles);
      arrays = l.lists.arrays ∙ told array_records arrays_bare;
      indexes = l.lists.indexes ∙ indexes_same roles;
    };
  }
