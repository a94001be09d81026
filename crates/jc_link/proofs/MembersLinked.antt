-- What the entries of constant pools name is there.
use Rattle.std.proofs.Common.{◌≡◌, ℕ, ◌<◌, Bool, cond, eqb, List, length, Option, Some, None, slice_index, option_map, arith}
use Rattle.std.proofs.Common.{option_and_then, is_some, IfSome, refl, sym, ap, subst, ◌∙◌}
use Rattle.std.proofs.lemmas.List.{length-map}
use Rattle.cap_bytes.specs.declared.class_reference.ClassReference.{ClassReference}
use Rattle.cap_pool.specs.PoolFormat.{Entry}
use Rattle.cap_pool.specs.declared.pool_record.PoolReference.{PoolReference}
use Rattle.cap_pool.specs.declared.pool_record.PoolReference.TheVariants.{InstanceField}
use Rattle.cap_pool.specs.declared.pool_record.StaticReference.{StaticReference}
use Rattle.cap_pool.specs.PoolReference.{referred}
use Rattle.cap_package.specs.PackageRecord.{PackageRecord}
use Rattle.jc_base.specs.declared.record.Member.{Member}
use Rattle.jc_base.specs.declared.record.Member.TheVariants.{ClassOf, Virtual, Super, StaticCall}
use Rattle.jc_base.specs.declared.record.MethodRec.{MethodRec}
use Rattle.jc_base.specs.declared.record.StaticRec.{StaticRec}
use Rattle.jc_base.specs.Class.{ClassTable, AreClasses, IsClass, is_interface, parent_of}
use Rattle.jc_base.specs.Dispatch.{entry_at}
use Rattle.jc_base.specs.Linked.{AreLinkedClasses, IsMember}
use Rattle.jc_resolve.specs.declared.fault.RecordPlace.{RecordPlace}
use Rattle.jc_resolve.specs.Numbering.{numbered_methods, method_at}
use Rattle.jc_resolve.specs.References.{class_referred}
use Rattle.jc_resolve.specs.declared.naming.NamedClass.{NamedClass}
use Rattle.jc_resolve.specs.Names.{NamesRecord}
use Rattle.jc_resolve.specs.NamedMethods.{named_method, named_methods}
use Rattle.jc_resolve.specs.NamedClasses.{named_classes}
use Rattle.jc_resolve.proofs.NumberLaws.{method_below}
use Rattle.jc_link.specs.Fields.{field_sites, HasCellsOf}
use Rattle.jc_link.specs.Entries.{field_place, method_place}
use Rattle.jc_link.specs.Members.{class_member, proper_referred, virtual_by, virtual_member, super_by, super_of, super_member, static_at}
use Rattle.jc_link.specs.Members.{static_member, call_member, field_of, field_member, member_referred}
use Rattle.jc_link.proofs.KnownMembers.{class-below, entry_contained, static_there}
use Rattle.jc_link.proofs.OwnRecords.{records_many}
use Rattle.jc_link.proofs.FieldsLinked.{field_linked}

-- what holds of what was found, step by step
if_mapped : {X Y : Type 0} (P : Y → Type 0) (Q : X → Type 0) (f : X → Y) (o : Option X) → IfSome o Q → ((x : X) → Q x → P (f x))
    → IfSome (option_map f o) P
if_mapped x y f u h step = grind (arith)

if_then : {X Y : Type 0} (P : Y → Type 0) (Q : X → Type 0) (f : X → Option Y) (o : Option X) → IfSome o Q → ((x : X) → Q x → IfSome (f x) P)
    → IfSome (option_and_then f o) P
if_then x y f u h step = grind (arith)

if_any : {X Y : Type 0} (P : Y → Type 0) (f : X → Option Y) (o : Option X) → ((x : X) → IfSome (f x) P) → IfSome (option_and_then f o) P
if_any x f z step = grind (arith)

-- the token of a field is a byte
abbrev HasByteToken : PoolReference → Type 0
HasByteToken (InstanceField r token) = token < 256
HasByteToken other = Unit {0}

byte-token : (e : Entry) → slice_index e.bytes 2 < 256 → HasByteToken (referred e)
unfolding referred
byte-token e lt = grind (arith, slice_index, eqb)

module _ (ps : List PackageRecord) (object packages : ℕ) (t : ClassTable) (methods : List MethodRec) (statics : List StaticRec) (are : AreClasses t)
    (linked : AreLinkedClasses packages t methods)
    (cells : HasCellsOf (named_classes ps object) object t) (many : length methods ≡ length (numbered_methods ps)) where
  class_known : (k : ℕ) (r : ClassReference) → IfSome (class_referred ps k r) (λ c. c < length t.records)
  class_known k r = subst (λ n. IfSome (class_referred ps k r) (λ c. c < n)) (sym (records_many ps object t cells)) (class-below ps k r)

  class_linked : (k : ℕ) (r : ClassReference) → IfSome (class_member ps k r) (IsMember t methods statics)
  unfolding class_member
  class_linked k r = if_mapped (IsMember t methods statics) (λ c. c < length t.records) ClassOf (class_referred ps k r) (class_known k r) (λ c lt. lt)

  proper_class : (c : ℕ) (b : Bool) → is_interface t c ≡ b → c < length t.records → IfSome (cond b None (Some c)) (IsClass t)
  proper_class c y e lt = grind (arith)

  proper_known : (k : ℕ) (r : ClassReference) → IfSome (proper_referred ps t k r) (IsClass t)
  unfolding proper_referred
  proper_known k r = grind (arith, class_known k r, if_then, proper_class)

  -- ---- fields

  fields_linked : (k : ℕ) (r : ClassReference) (token : ℕ) → token < 256 → IfSome (field_member ps t k r token) (IsMember t methods statics)
  unfolding field_member
  fields_linked k r token lt =
      if_then (IsMember t methods statics) (IsClass t) (field_of (field_sites ps t) t token) (proper_referred ps t k r) (proper_known k r)
      (λ c is. field_linked ps object packages t methods are linked cells statics token c lt is)

  -- ---- methods with dispatch

  virtual_class : (c token : ℕ) (o : Option ℕ) → entry_at t c token ≡ o → IsClass t c → IfSome (cond (is_some o) (Some (Virtual c token)) None)
      (IsMember t methods statics)
  virtual_class c token z e is = grind (arith, is_some)

  virtual_linked : (k : ℕ) (r : ClassReference) (token : ℕ) → IfSome (virtual_member ps t k r token) (IsMember t methods statics)
  unfolding virtual_member virtual_by
  virtual_linked k r token = grind (arith, proper_known k r, if_then, virtual_class)

  super_entry : (c p token : ℕ) (o : Option ℕ) → parent_of t c ≡ Some p → entry_at t p token ≡ o → IsClass t c
      → IfSome (option_map (Super c) o) (IsMember t methods statics)
  super_entry c p token u up e is = grind (arith, entry_contained)

  super_named : (c p token : ℕ) (b : Bool) → parent_of t c ≡ Some p → IsClass t c
      → IfSome (cond b (option_map (Super c) (entry_at t p token)) None) (IsMember t methods statics)
  super_named c p token u up is = grind (arith, super_entry)

  super_class : (c token : ℕ) (o : Option ℕ) → parent_of t c ≡ o → IsClass t c
      → IfSome (option_and_then (super_by t token c) o) (IsMember t methods statics)
  unfolding super_by
  super_class c token z up is = grind (arith, super_named)

  super_linked : (k : ℕ) (r : ClassReference) (token : ℕ) → IfSome (super_member ps t k r token) (IsMember t methods statics)
  unfolding super_member super_of
  super_linked k r token = grind (arith, proper_known k r, if_then, super_class)

  -- ---- static fields, and methods without dispatch

  static_linked : (k : ℕ) (r : StaticReference) → IfSome (static_member ps statics k r) (IsMember t methods statics)
  unfolding static_member
  static_linked k r = if_any (IsMember t methods statics) (static_at statics) (field_place ps k r) (λ place. static_there t methods statics place)

  method_known : (place : RecordPlace) → IfSome (method_at ps place) (λ n. n < length methods)
  method_known place = subst (λ len. IfSome (method_at ps place) (λ n. n < len)) (sym many) (method_below ps place (method_at ps place) refl)

  call_linked : (k : ℕ) (r : StaticReference) → IfSome (call_member ps k r) (IsMember t methods statics)
  unfolding call_member
  call_linked k r =
      if_mapped (IsMember t methods statics) (λ n. n < length methods) StaticCall (option_and_then (method_at ps) (method_place ps k r))
      (if_any (λ n. n < length methods) (method_at ps) (method_place ps k r) method_known) (λ n lt. lt)

  -- ---- all

  -- the member to which an entry refers is there
  referred_linked : (k : ℕ) (x : PoolReference) → HasByteToken x → IfSome (member_referred ps t statics k x) (IsMember t methods statics)
  referred_linked k y lt = grind (arith, class_linked, fields_linked, virtual_linked, super_linked, static_linked, call_linked)

-- the same of the names of packages
pub member_there : (n : NamesRecord) (t : ClassTable) (statics : List StaticRec) (k : ℕ) (e : Entry) (o : Option Member)
    → n.classes ≡ named_classes n.packages (slice_index n.roles 0) → n.methods ≡ named_methods n.packages n.roles
    → AreClasses t → AreLinkedClasses (length n.packages) t n.methods → HasCellsOf n.classes (slice_index n.roles 0) t → slice_index e.bytes 2 < 256
    → o ≡ member_referred n.packages t statics k (referred e) → IfSome o (IsMember t n.methods statics)
unfolding named_methods
member_there n t statics k e o classes methods are linked cells lt is =
    let many : length n.methods ≡ length (numbered_methods n.packages) = ap length methods
    ∙ length-map (numbered_methods n.packages) (named_method n.packages n.roles) in
    let own : HasCellsOf (named_classes n.packages (slice_index n.roles 0)) (slice_index n.roles 0) t = subst
    (λ (cs : List NamedClass). HasCellsOf cs (slice_index n.roles 0) t) classes cells in
    subst (λ (m : Option Member). IfSome m (IsMember t n.methods statics)) (sym is)
    (referred_linked n.packages (slice_index n.roles 0) (length n.packages) t n.methods statics are linked own many k (referred e) (byte-token e lt))
