-- What an entry names by cases is what is computed, and at most one member is named.
use Rattle.std.proofs.Common.{◌≡◌, ℕ, Bool, true, false, cond, eqb, ltb, List}
use Rattle.std.proofs.Common.{[], ◌∷◌, Option, Some, None, option_map, option_and_then, is_some, arith}
use Rattle.std.proofs.Common.{refl, sym, ap, subst, ◌∙◌}
use Rattle.std.proofs.lemmas.Bool.{ltb-true, eqb-true, eq-eqb, lt-ltb, or_cases, or_left, or_right}
use Rattle.std.proofs.lemmas.Option.{same_Some}
use Rattle.cap_bytes.specs.declared.class_reference.ClassReference.{ClassReference}
use Rattle.cap_pool.specs.PoolFormat.{Entry}
use Rattle.cap_pool.specs.declared.pool_record.PoolReference.{PoolReference}
use Rattle.cap_pool.specs.declared.pool_record.PoolReference.TheVariants.{Class, InstanceField, VirtualMethod}
use Rattle.cap_pool.specs.declared.pool_record.PoolReference.TheVariants.{SuperMethod, StaticField, StaticMethod}
use Rattle.cap_pool.specs.declared.pool_record.StaticReference.{StaticReference}
use Rattle.cap_pool.specs.declared.pool_record.StaticReference.TheVariants.{Internal, External}
use Rattle.cap_pool.specs.PoolReference.{referred}
use Rattle.cap_package.specs.PackageRecord.{PackageRecord}
use Rattle.jc_base.specs.declared.record.Member.{Member}
use Rattle.jc_base.specs.declared.record.Member.TheVariants.{ClassOf, Virtual, Super, StaticCall}
use Rattle.jc_base.specs.declared.record.StaticRec.{StaticRec}
use Rattle.jc_base.specs.Class.{ClassTable, is_interface, parent_of}
use Rattle.jc_base.specs.Dispatch.{entry_at}
use Rattle.jc_resolve.specs.declared.fault.RecordPlace.{RecordPlace}
use Rattle.jc_resolve.specs.Numbering.{method_at}
use Rattle.jc_resolve.specs.References.{met_by, class_referred}
use Rattle.jc_resolve.proofs.ReferenceLaws.{computed-refers, refers-computed}
use Rattle.jc_link.specs.Sites.{only, members_standing}
use Rattle.jc_link.specs.Entries.{place_in, exported_field, exported_method, place_by, field_place, method_place}
use Rattle.jc_link.specs.Fields.{field_sites}
use Rattle.jc_link.specs.Members.{class_member, proper_by, proper_referred, virtual_by, virtual_member}
use Rattle.jc_link.specs.Members.{may_name, super_by, super_of, super_member}
use Rattle.jc_link.specs.Members.{static_sites, static_at, static_member, call_member, holder_of}
use Rattle.jc_link.specs.Members.{token_of_class, as_of, field_of, field_member}
use Rattle.jc_link.specs.Members.{member_referred, member_of}
use Rattle.jc_link.specs.Naming.{RefersTo, internal, imported, NamesClass, MayName}
use Rattle.jc_link.specs.Naming.{NamesMember, classref, instance_fieldref, virtual_methodref}
use Rattle.jc_link.specs.Naming.{super_methodref, static_fieldref, static_methodref}

-- ---- what was found, step by step

pub then_some : {X Y : Type 0} (f : X → Option Y) (o : Option X) (y : Y) → option_and_then f o ≡ Some y → (x : X) × (o ≡ Some x) × (f x ≡ Some y)
then_some f y y2 h = grind (arith)

map_some : {X Y : Type 0} (f : X → Y) (o : Option X) (y : Y) → option_map f o ≡ Some y → (x : X) × (o ≡ Some x) × (f x ≡ y)
map_some f y y2 h = grind (arith, same_Some)

when_some : {X : Type 0} (b : Bool) (o : Option X) (y : X) → cond b o None ≡ Some y → (b ≡ true) × (o ≡ Some y)
when_some x o y h = grind (arith)

unless_some : {X : Type 0} (b : Bool) (o : Option X) (y : X) → cond b None o ≡ Some y → (b ≡ false) × (o ≡ Some y)
unless_some x o y h = grind (arith)

only-one : {X : Type 0} (xs : List X) (x : X) → only xs ≡ Some x → xs ≡ x ∷ []
only-one x x2 h = grind (arith, same_Some)

-- ---- places

module _ (ps : List PackageRecord) (exported : ℕ → ℕ → ℕ → Option ℕ) (k : ℕ) (place : RecordPlace) where
  place-from : (r : StaticReference) → place_by ps exported k r ≡ Some place → RefersTo ps exported k r place
  place-from (Internal offset) h = internal offset refl (sym (same_Some (place_in k offset) place h))
  place-from (External import class token) h =
      let a = then_some (λ j. option_map (place_in j) (exported j class token)) (met_by ps k import) place h in
      let b = map_some (place_in a.0) (exported a.0 class token) place a.2 in
      imported import class token a.0 b.0 refl a.1 b.1 (sym b.2)

  place-to : (r : StaticReference) → RefersTo ps exported k r place → place_by ps exported k r ≡ Some place
  place-to r y = grind (arith, option_and_then, option_map)

module _ (ps : List PackageRecord) (k : ℕ) (r : StaticReference) (place : RecordPlace) where
  field_place-from : field_place ps k r ≡ Some place → RefersTo ps (exported_field ps) k r place
  unfolding field_place
  field_place-from h = place-from ps (exported_field ps) k place r h

  field_place-to : RefersTo ps (exported_field ps) k r place → field_place ps k r ≡ Some place
  unfolding field_place
  field_place-to h = place-to ps (exported_field ps) k place r h

  method_place-from : method_place ps k r ≡ Some place → RefersTo ps (exported_method ps) k r place
  unfolding method_place
  method_place-from h = place-from ps (exported_method ps) k place r h

  method_place-to : RefersTo ps (exported_method ps) k r place → method_place ps k r ≡ Some place
  unfolding method_place
  method_place-to h = place-to ps (exported_method ps) k place r h

-- ---- classes

module _ (ps : List PackageRecord) (t : ClassTable) (k : ℕ) (r : ClassReference) where
  proper-from : (c : ℕ) → proper_referred ps t k r ≡ Some c → NamesClass ps t k r c
  unfolding proper_referred
  proper-from c h =
      let a = then_some (proper_by t) (class_referred ps k r) c h in
      let b = unless_some (is_interface t a.0) (Some a.0) c a.2 in
      let same : a.0 ≡ c = same_Some a.0 c b.1 in
      subst (NamesClass ps t k r) same (record { refers = computed-refers ps k r a.0 a.1; class = b.0 })

  proper-to : (c : ℕ) → NamesClass ps t k r c → proper_referred ps t k r ≡ Some c
  unfolding proper_referred
  proper-to c n = ap (option_and_then (proper_by t)) (refers-computed ps k r c n.refers) ∙ ap (λ b. cond b None (Some c)) n.class

module _ (ps : List PackageRecord) (t : ClassTable) (statics : List StaticRec) (k : ℕ) (e : Entry) (m : Member) where
  -- ---- each kind of entry, from what is computed

  class-from : (r : ClassReference) → referred e ≡ Class r → class_member ps k r ≡ Some m → NamesMember ps t statics k e m
  unfolding class_member
  class-from r is h =
      let a = map_some ClassOf (class_referred ps k r) m h in
      classref r a.0 is (computed-refers ps k r a.0 a.1) (sym a.2)

  field-from : (r : ClassReference) (token : ℕ) → referred e ≡ InstanceField r token → field_member ps t k r token ≡ Some m
      → NamesMember ps t statics k e m
  unfolding field_member field_of
  field-from r token is h =
      let a = then_some (field_of (field_sites ps t) t token) (proper_referred ps t k r) m h in
      let b = map_some (as_of a.0)
      (option_and_then (λ i. only (members_standing (field_sites ps t) (token_of_class i token))) (holder_of (field_sites ps t) t token a.0)) m a.2 in
      let d = then_some (λ i. only (members_standing (field_sites ps t) (token_of_class i token))) (holder_of (field_sites ps t) t token a.0) b.0 b.1 in
      instance_fieldref r token a.0 d.0 b.0 is (proper-from ps t k r a.0 a.1) d.1
      (only-one (members_standing (field_sites ps t) (token_of_class d.0 token)) b.0 d.2) (sym b.2)

  virtual-from : (r : ClassReference) (token : ℕ) → referred e ≡ VirtualMethod r token → virtual_member ps t k r token ≡ Some m
      → NamesMember ps t statics k e m
  unfolding virtual_member virtual_by
  virtual-from r token is h =
      let a = then_some (virtual_by t token) (proper_referred ps t k r) m h in
      let b = when_some (is_some (entry_at t a.0 token)) (Some (Virtual a.0 token)) m a.2 in
      virtual_methodref r token a.0 is (proper-from ps t k r a.0 a.1) b.0 (sym (same_Some (Virtual a.0 token) m b.1))

  may-from : (c token p : ℕ) → may_name t c token p ≡ true → MayName t c token p
  may-from c token p h = grind (arith, or_cases, ltb, eqb, ltb-true, eqb-true)

  may-to : (c token p : ℕ) → MayName t c token p → may_name t c token p ≡ true
  may-to c token p u = grind (arith, or_left, ltb, eqb, lt-ltb, or_right, eq-eqb)

  super-from : (r : ClassReference) (token : ℕ) → referred e ≡ SuperMethod r token → super_member ps t k r token ≡ Some m
      → NamesMember ps t statics k e m
  unfolding super_member super_of super_by
  super-from r token is h =
      let a = then_some (super_of t token) (proper_referred ps t k r) m h in
      let b = then_some (super_by t token a.0) (parent_of t a.0) m a.2 in
      let d = when_some (may_name t a.0 token b.0) (option_map (Super a.0) (entry_at t b.0 token)) m b.2 in
      let f = map_some (Super a.0) (entry_at t b.0 token) m d.1 in
      super_methodref r token a.0 b.0 f.0 is (proper-from ps t k r a.0 a.1) b.1 (may-from a.0 token b.0 d.0) f.1 (sym f.2)

  static-from : (r : StaticReference) → referred e ≡ StaticField r → static_member ps statics k r ≡ Some m → NamesMember ps t statics k e m
  unfolding static_member static_at
  static-from r is h =
      let a = then_some (static_at statics) (field_place ps k r) m h in
      static_fieldref r a.0 is (field_place-from ps k r a.0 a.1)
      (only-one (members_standing (static_sites statics) (record { owner = a.0.package; number = a.0.offset })) m a.2)

  call-from : (r : StaticReference) → referred e ≡ StaticMethod r → call_member ps k r ≡ Some m → NamesMember ps t statics k e m
  unfolding call_member
  call-from r is h =
      let a = map_some StaticCall (option_and_then (method_at ps) (method_place ps k r)) m h in
      let b = then_some (method_at ps) (method_place ps k r) a.0 a.1 in
      static_methodref r b.0 a.0 is (method_place-from ps k r b.0 b.1) b.2 (sym a.2)

  -- ---- all

  by_kind : (x : PoolReference) → referred e ≡ x → member_referred ps t statics k x ≡ Some m → NamesMember ps t statics k e m
  by_kind (Class r) is h = class-from r is h
  by_kind (InstanceField r token) is h = field-from r token is h
  by_kind (VirtualMethod r token) is h = virtual-from r token is h
  by_kind (SuperMethod r token) is h = super-from r token is h
  by_kind (StaticField r) is h = static-from r is h
  by_kind (StaticMethod r) is h = call-from r is h

  -- the member that is computed is named
  pub member-names : member_of ps t statics k e ≡ Some m → NamesMember ps t statics k e m
  unfolding member_of
  member-names h = by_kind (referred e) refl h

  abbrev named : PoolReference → Option Member
  named = member_referred ps t statics k

  -- what is named is computed
  pub names-member : NamesMember ps t statics k e m → member_of ps t statics k e ≡ Some m
  unfolding member_of class_member field_member field_of virtual_member virtual_by super_member super_of super_by static_member static_at call_member
  names-member (classref r c is refers same) = ap named is ∙ ap (option_map ClassOf) (refers-computed ps k r c refers) ∙ ap Some (sym same)
  names-member (instance_fieldref r token c h f is proper holder here same) =
      grind (arith, option_and_then (field_of (field_sites ps t) t token), proper-to ps t k r c proper, option_map)
  names-member (virtual_methodref r token c is proper there same) =
      grind (arith, option_and_then (virtual_by t token), proper-to ps t k r c proper, cond)
  names-member (super_methodref r token c p n is proper up may there same) =
      grind (
        arith,
        option_and_then (super_of t token),
        proper-to ps t k r c proper,
        option_and_then (super_by t token c),
        option_map (Super c) (entry_at t p token),
        may-to c token p may,
        cond,
      )
  names-member (static_fieldref r place is at here) = grind (arith, option_and_then (static_at statics), field_place-to ps k r place at)
  names-member (static_methodref r place n is at there same) =
      grind (arith, method_place-to ps k r place at, option_map StaticCall, option_and_then)

-- at most one member is named
pub names-only : (ps : List PackageRecord) (t : ClassTable) (statics : List StaticRec) (k : ℕ) (e : Entry) (m n : Member)
    → NamesMember ps t statics k e m → NamesMember ps t statics k e n → n ≡ m
names-only ps t statics k e m n a b = same_Some n m (sym (names-member ps t statics k e n b) ∙ names-member ps t statics k e m a)
