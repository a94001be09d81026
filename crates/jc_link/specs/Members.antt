-- The member that an entry of a constant pool names: exactly one stands there (JCVM 2.2, section 6.7).
use Rattle.std.specs.Prelude.{ℕ, Bool, List, Option, Some, None, option_map, option_and_then, is_some, map, find, nat_lt, ◌==◌}
use Rattle.std.specs.Prelude.{◌||◌, if◌then◌else◌}
use Rattle.std.specs.Option.{option_flatten}
use Rattle.cap_bytes.specs.declared.class_reference.ClassReference.{ClassReference}
use Rattle.cap_pool.specs.PoolFormat.{Entry}
use Rattle.cap_pool.specs.declared.pool_record.PoolReference.{PoolReference}
use Rattle.cap_pool.specs.declared.pool_record.PoolReference.TheVariants.{Class, InstanceField, VirtualMethod, SuperMethod, StaticField}
use Rattle.cap_pool.specs.declared.pool_record.PoolReference.TheVariants.{StaticMethod}
use Rattle.cap_pool.specs.declared.pool_record.StaticReference.{StaticReference}
use Rattle.cap_pool.specs.PoolReference.{referred}
use Rattle.cap_package.specs.PackageRecord.{PackageRecord}
use Rattle.jc_base.specs.declared.record.Member.{Member}
use Rattle.jc_base.specs.declared.record.Member.TheVariants.{ClassOf, Field, Static, Virtual, Super, StaticCall}
use Rattle.jc_base.specs.declared.record.StaticRec.{StaticRec}
use Rattle.jc_base.specs.Class.{ClassTable, is_interface, parent_of, chain}
use Rattle.jc_base.specs.Dispatch.{entry_at, package_of}
use Rattle.jc_resolve.specs.declared.fault.RecordPlace.{RecordPlace}
use Rattle.jc_resolve.specs.Numbering.{method_at}
use Rattle.jc_resolve.specs.References.{class_referred}
use Rattle.jc_link.specs.declared.sites.Spot.{Spot}
use Rattle.jc_link.specs.Sites.{MemberSite, only, is_there, members_standing, kept_at}
use Rattle.jc_link.specs.Fields.{field_sites}
use Rattle.jc_link.specs.Entries.{field_place, method_place}

-- ---- classes

-- a Classref names a class or an interface
unfoldable pub class_member : List PackageRecord → ℕ → ClassReference → Option Member
class_member ps k reference = option_map ClassOf (class_referred ps k reference)

-- the class to which a reference leads, if it is no interface
abbrev pub proper_by : ClassTable → ℕ → Option ℕ
proper_by t c = if is_interface t c then None else Some c

unfoldable pub proper_referred : List PackageRecord → ClassTable → ℕ → ClassReference → Option ℕ
proper_referred ps t k reference = option_and_then (proper_by t) (class_referred ps k reference)

-- ---- methods with dispatch

-- a VirtualMethodref names a token of a class's dispatch lists
unfoldable pub virtual_by : ClassTable → ℕ → ℕ → Option Member
virtual_by t token c = if is_some (entry_at t c token) then Some (Virtual c token) else None

unfoldable pub virtual_member : List PackageRecord → ClassTable → ℕ → ClassReference → ℕ → Option Member
virtual_member ps t k reference token = option_and_then (virtual_by t token) (proper_referred ps t k reference)

-- a class may name this token of its superclass: a package-visible one only within the package
abbrev pub may_name : ClassTable → ℕ → ℕ → ℕ → Bool
may_name t c token p = nat_lt token 128 || package_of t p == package_of t c

-- a SuperMethodref names the method that the class's superclass has for a token
unfoldable pub super_by : ClassTable → ℕ → ℕ → ℕ → Option Member
super_by t token c p = if may_name t c token p then option_map (Super c) (entry_at t p token) else None

unfoldable pub super_of : ClassTable → ℕ → ℕ → Option Member
super_of t token c = option_and_then (super_by t token c) (parent_of t c)

unfoldable pub super_member : List PackageRecord → ClassTable → ℕ → ClassReference → ℕ → Option Member
super_member ps t k reference token = option_and_then (super_of t token) (proper_referred ps t k reference)

-- ---- static fields

abbrev pub static_site : StaticRec → MemberSite
static_site f = record { spot = record { owner = f.package; number = f.offset }; member = Static f.slot f.kind f.ty }

abbrev pub static_sites : List StaticRec → List MemberSite
static_sites = map static_site

-- a StaticFieldref names the static field at a place
unfoldable pub static_at : List StaticRec → RecordPlace → Option Member
static_at statics place = only (members_standing (static_sites statics) (record { owner = place.package; number = place.offset }))

unfoldable pub static_member : List PackageRecord → List StaticRec → ℕ → StaticReference → Option Member
static_member ps statics k reference = option_and_then (static_at statics) (field_place ps k reference)

-- ---- methods without dispatch

-- a StaticMethodref names the method at a place
unfoldable pub call_member : List PackageRecord → ℕ → StaticReference → Option Member
call_member ps k reference = option_map StaticCall (option_and_then (method_at ps) (method_place ps k reference))

-- ---- instance fields

abbrev pub token_of_class : ℕ → ℕ → Spot
token_of_class c token = record { owner = c; number = token }

-- the nearest class, among a class and its superclasses, that has an instance field with a token
unfoldable pub holder_of : List MemberSite → ClassTable → ℕ → ℕ → Option ℕ
holder_of sites t token c = find (λ h. is_there (members_standing sites (token_of_class h token))) (chain t c)

-- a field of a superclass as one of the class
abbrev pub as_of : ℕ → Member → Member
as_of c (Field holder cell kind ty) = Field c cell kind ty
as_of c m = m

-- the field that a class has with a token
unfoldable pub field_of : List MemberSite → ClassTable → ℕ → ℕ → Option Member
field_of sites t token c = option_map (as_of c)
    (option_and_then (λ h. only (members_standing sites (token_of_class h token))) (holder_of sites t token c))

-- the same by a table of the fields
abbrev pub kept_holder : List (Spot × Option Member) → ClassTable → ℕ → ℕ → Option ℕ
kept_holder entries t token c = find (λ h. is_some (kept_at entries (token_of_class h token))) (chain t c)

abbrev pub kept_field : List (Spot × Option Member) → ClassTable → ℕ → ℕ → Option Member
kept_field entries t token c = option_map (as_of c)
    (option_and_then (λ h. option_flatten (kept_at entries (token_of_class h token)))
    (kept_holder entries t token c))

-- an InstanceFieldref names the field that a class has with a token
unfoldable pub field_member : List PackageRecord → ClassTable → ℕ → ClassReference → ℕ → Option Member
field_member ps t k reference token = option_and_then (field_of (field_sites ps t) t token) (proper_referred ps t k reference)

-- ---- all

-- the member that a package names by what an entry refers to
abbrev pub member_referred : List PackageRecord → ClassTable → List StaticRec → ℕ → PoolReference → Option Member
member_referred ps t statics k (Class reference) = class_member ps k reference
member_referred ps t statics k (InstanceField class token) = field_member ps t k class token
member_referred ps t statics k (VirtualMethod class token) = virtual_member ps t k class token
member_referred ps t statics k (SuperMethod class token) = super_member ps t k class token
member_referred ps t statics k (StaticField reference) = static_member ps statics k reference
member_referred ps t statics k (StaticMethod reference) = call_member ps k reference

-- the member that an entry of a package names
unfoldable pub member_of : List PackageRecord → ClassTable → List StaticRec → ℕ → Entry → Option Member
member_of ps t statics k e = member_referred ps t statics k (referred e)
