-- What an entry of a constant pool names, by cases (JCVM 2.2, section 6.7).
use Rattle.std.specs.Prelude.{◌≡◌, ◌<◌, ◌⊎◌, ℕ, false, List, [], ◌∷◌, Option, Some, Result, Ok, Err, IsSome}
use Rattle.std.specs.Prelude.{slice_get}
use Rattle.cap_bytes.specs.declared.class_reference.ClassReference.{ClassReference}
use Rattle.cap_pool.specs.PoolFormat.{Entry}
use Rattle.cap_pool.specs.declared.pool_record.PoolReference.TheVariants.{Class, InstanceField, VirtualMethod, SuperMethod, StaticField}
use Rattle.cap_pool.specs.declared.pool_record.PoolReference.TheVariants.{StaticMethod}
use Rattle.cap_pool.specs.declared.pool_record.StaticReference.{StaticReference}
use Rattle.cap_pool.specs.declared.pool_record.StaticReference.TheVariants.{Internal, External}
use Rattle.cap_pool.specs.PoolReference.{referred}
use Rattle.cap_package.specs.PackageRecord.{PackageRecord}
use Rattle.jc_base.specs.declared.record.Member.{Member}
use Rattle.jc_base.specs.declared.record.Member.TheVariants.{ClassOf, Virtual, Super, StaticCall}
use Rattle.jc_base.specs.declared.record.StaticRec.{StaticRec}
use Rattle.jc_base.specs.Class.{ClassTable, is_interface, parent_of}
use Rattle.jc_base.specs.Dispatch.{entry_at, package_of}
use Rattle.jc_base.specs.Linked.{list_at}
use Rattle.jc_resolve.specs.declared.fault.LinkFault.{LinkFault}
use Rattle.jc_resolve.specs.declared.fault.LinkFault.TheVariants.{NoMember}
use Rattle.jc_resolve.specs.declared.fault.LinkEnd.{LinkEnd}
use Rattle.jc_resolve.specs.declared.fault.LinkEnd.TheVariants.{Fault, Memory}
use Rattle.jc_resolve.specs.declared.fault.RecordPlace.{RecordPlace}
use Rattle.jc_resolve.specs.Numbering.{method_at}
use Rattle.jc_resolve.specs.References.{met_by, Refers}
use Rattle.jc_link.specs.Entries.{place_in, exported_field, exported_method}
use Rattle.jc_link.specs.Fields.{field_sites}
use Rattle.jc_link.specs.Members.{static_sites, holder_of, token_of_class, as_of}
use Rattle.jc_link.specs.Sites.{members_standing}

-- where the static field or the method without dispatch stands to which a reference of the package k leads: in
-- the package itself at an offset, or in the package that meets an import where this one exports it
pub data RefersTo (ps : List PackageRecord) (exported : ℕ → ℕ → ℕ → Option ℕ) (k : ℕ) (r : StaticReference)
    (place : RecordPlace)
    : Type 0 where
  internal : (offset : ℕ) → r ≡ Internal offset → place ≡ place_in k offset → RefersTo ps exported k r place
  imported :
      (import class token j offset : ℕ)
      → r ≡ External import class token
      → met_by ps k import ≡ Some j
      → exported j class token ≡ Some offset
      → place ≡ place_in j offset
      → RefersTo ps exported k r place

-- the reference is to a class that is no interface
pub record NamesClass (ps : List PackageRecord) (t : ClassTable) (k : ℕ) (reference : ClassReference) (c : ℕ) : Type 0 where
  pub refers : Refers ps k reference c
  pub class : is_interface t c ≡ false

-- a class may name this token of its superclass: a package-visible one only within the package
abbrev pub MayName : ClassTable → ℕ → ℕ → ℕ → Type 0
MayName t c token p = (token < 128) ⊎ (package_of t p ≡ package_of t c)

-- the entry of the package k names the member
pub data NamesMember (ps : List PackageRecord) (t : ClassTable) (statics : List StaticRec) (k : ℕ) (e : Entry) (m : Member) : Type 0 where
  -- a Classref: the class or interface to which it refers
  classref : (r : ClassReference) (c : ℕ) → referred e ≡ Class r → Refers ps k r c → m ≡ ClassOf c
      → NamesMember ps t statics k e m
  -- an InstanceFieldref: the one field with the token of the nearest class, among the class and its
  -- superclasses, that has one
  instance_fieldref :
      (r : ClassReference) (token c h : ℕ) (f : Member)
      → referred e ≡ InstanceField r token
      → NamesClass ps t k r c
      → holder_of (field_sites ps t) t token c ≡ Some h
      → members_standing (field_sites ps t) (token_of_class h token) ≡ f ∷ []
      → m ≡ as_of c f
      → NamesMember ps t statics k e m
  -- a VirtualMethodref: a token of the class's dispatch lists
  virtual_methodref :
      (r : ClassReference) (token c : ℕ)
      → referred e ≡ VirtualMethod r token
      → NamesClass ps t k r c
      → IsSome (entry_at t c token)
      → m ≡ Virtual c token
      → NamesMember ps t statics k e m
  -- a SuperMethodref: the method that the class's superclass has for a token that the class may name
  super_methodref :
      (r : ClassReference) (token c p n : ℕ)
      → referred e ≡ SuperMethod r token
      → NamesClass ps t k r c
      → parent_of t c ≡ Some p
      → MayName t c token p
      → entry_at t p token ≡ Some n
      → m ≡ Super c n
      → NamesMember ps t statics k e m
  -- a StaticFieldref: the one static field at a place
  static_fieldref :
      (r : StaticReference) (place : RecordPlace)
      → referred e ≡ StaticField r
      → RefersTo ps (exported_field ps) k r place
      → members_standing (static_sites statics) (record { owner = place.package; number = place.offset }) ≡ m ∷ []
      → NamesMember ps t statics k e m
  -- a StaticMethodref: the method at a place
  static_methodref :
      (r : StaticReference) (place : RecordPlace) (n : ℕ)
      → referred e ≡ StaticMethod r
      → RefersTo ps (exported_method ps) k r place
      → method_at ps place ≡ Some n
      → m ≡ StaticCall n
      → NamesMember ps t statics k e m

-- the member is the one that the entry names
pub record NamesOnly (ps : List PackageRecord) (t : ClassTable) (statics : List StaticRec) (k : ℕ) (e : Entry) (m : Member) : Type 0 where
  pub names : NamesMember ps t statics k e m
  pub only : (other : Member) → NamesMember ps t statics k e other → other ≡ m

-- the entry of a number in the pool of the package k
pub record IsPoolEntry (ps : List PackageRecord) (k n : ℕ) (e : Entry) : Type 0 where
  pub home : PackageRecord
  pub there : slice_get ps k ≡ Some home
  pub entry : slice_get home.pool n ≡ Some e

-- at the number of each entry the pools have the one member that it names
abbrev pub HaveNamedMembers : List PackageRecord → ClassTable → List StaticRec → List (List Member) → Type 0
HaveNamedMembers ps t statics pools =
    (k n : ℕ) (e : Entry)
    → IsPoolEntry ps k n e
    → (m : Member) × (slice_get (list_at pools k) n ≡ Some m) × NamesOnly ps t statics k e m

-- there is an entry of the number, which names no member
pub record NamesNone (ps : List PackageRecord) (t : ClassTable) (statics : List StaticRec) (k n : ℕ) : Type 0 where
  pub of : Entry
  pub at : IsPoolEntry ps k n of
  pub none : (m : Member) → ¬ (NamesMember ps t statics k of m)

abbrev pub LacksMember : List PackageRecord → ClassTable → List StaticRec → LinkFault → Type 0
LacksMember ps t statics (NoMember k n) = NamesNone ps t statics k n
LacksMember ps t statics other = ⊥

-- each entry names one member, which the pools have; or the entry that is told names none
abbrev pub NamesEach : List PackageRecord → ClassTable → List StaticRec → Result (List (List Member)) LinkEnd → Type 0
NamesEach ps t statics (Ok pools) = HaveNamedMembers ps t statics pools
NamesEach ps t statics (Err (Fault fault)) = LacksMember ps t statics fault
NamesEach ps t statics (Err Memory) = Unit {0}
