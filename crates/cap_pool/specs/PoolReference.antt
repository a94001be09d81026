-- What an entry of the constant pool refers to (JCVM 2.2, section 6.7).
use Rattle.std.specs.Prelude.{◌≡◌, ℕ, ◌+◌, ◌-◌, ◌*◌, List, [], ◌∷◌, slice_index, nat_lt, ◌==◌}
use Rattle.std.specs.Prelude.{if◌then◌else◌, refl}
use Rattle.cap_bytes.specs.declared.class_reference.ClassReference.{ClassReference}
use Rattle.cap_bytes.specs.declared.class_reference.ClassReference.TheVariants.{External as OfImport}
use Rattle.cap_bytes.specs.ClassReference.{reference_of}
use Rattle.cap_pool.specs.PoolFormat.{Entry}
use Rattle.cap_pool.specs.declared.pool_record.PoolReference.{PoolReference}
use Rattle.cap_pool.specs.declared.pool_record.PoolReference.TheVariants.{Class, InstanceField, VirtualMethod, SuperMethod, StaticField}
use Rattle.cap_pool.specs.declared.pool_record.PoolReference.TheVariants.{StaticMethod}
use Rattle.cap_pool.specs.declared.pool_record.StaticReference.{StaticReference}
use Rattle.cap_pool.specs.declared.pool_record.StaticReference.TheVariants.{Internal, External}

-- the class_ref in the first two bytes
abbrev pub class_in : List ℕ → ClassReference
class_in bytes = reference_of (slice_index bytes 0 * 256 + slice_index bytes 1)

-- the token of a member in the last byte
abbrev pub token_in : List ℕ → ℕ
token_in bytes = slice_index bytes 2

-- a static field or a method without dispatch: where the high bit of the first byte is clear, the other two are the
-- internal_ref, an offset; where it is set, the three are the external_ref, the tokens of a package, a class and a member
abbrev pub static_in : List ℕ → StaticReference
static_in bytes = if nat_lt (slice_index bytes 0) 128
    then Internal (slice_index bytes 1 * 256 + slice_index bytes 2)
    else External (slice_index bytes 0 - 128) (slice_index bytes 1) (token_in bytes)

-- by the tag, which is from 1 to 6
unfoldable pub referred : Entry → PoolReference
referred e =
    if e.tag == 1 then Class (class_in e.bytes)
    else (if e.tag == 2 then InstanceField (class_in e.bytes) (token_in e.bytes)
    else (if e.tag == 3 then VirtualMethod (class_in e.bytes) (token_in e.bytes)
    else (if e.tag == 4 then SuperMethod (class_in e.bytes) (token_in e.bytes)
    else (if e.tag == 5 then StaticField (static_in e.bytes)
    else StaticMethod (static_in e.bytes)))))

-- token 3 of class 2 of the imported package 1, and the package's own static method at offset 515
a_virtual_method : referred (record { tag = 3; bytes = 0x81 ∷ 2 ∷ 3 ∷ [] }) ≡ VirtualMethod (OfImport 1 2) 3
unfolding referred
a_virtual_method = refl

an_own_method : referred (record { tag = 6; bytes = 0 ∷ 2 ∷ 3 ∷ [] }) ≡ StaticMethod (Internal 515)
unfolding referred
an_own_method = refl

an_imported_field : referred (record { tag = 5; bytes = 0x81 ∷ 2 ∷ 3 ∷ [] }) ≡ StaticField (External 1 2 3)
unfolding referred
an_imported_field = refl
