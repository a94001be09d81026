-- When an object is an instance of a class, of an interface or of an array type (JCVM 2.2, chapter 7, `checkcast`, `instanceof` and
-- `aastore`).
use Rattle.std.specs.Prelude.{◌≡◌, ℕ, ◌<◌, Bool, true, false, if◌then◌else◌, ◌==◌, MatchBool, length, ⊤}
use Rattle.jc_base.specs.declared.ty.Ty.{Ty}
use Rattle.jc_base.specs.declared.ty.Ty.TheVariants.{Class, ArrBool, ArrByte, ArrShort, ArrInt, ArrRef}
use Rattle.jc_base.specs.Class.{ClassTable, is_interface, object}
use Rattle.jc_base.specs.Order.{Below, is_on_chain}
use Rattle.jc_base.specs.Interface.{IsOrExtends, Implements, is_or_extends, implements}
use Rattle.vm_store.specs.declared.cell.ObjectKind.{ObjectKind}
use Rattle.vm_store.specs.declared.cell.ObjectKind.TheVariants.{Instance, Booleans, Bytes, Shorts, Ints, References}

-- what is of the class or interface c is of the class or interface d. Of an interface d: c is d or extends it, or c is a class that
-- implements it. Of a class d: c is d or a subclass of it; and where c is an interface, d is object
abbrev pub IsSubtype : ClassTable → ℕ → ℕ → Type 0
IsSubtype t c d =
    MatchBool (is_interface t d)
    (MatchBool (is_interface t c) (IsOrExtends t c d) (Implements t c d))
    (MatchBool (is_interface t c) (d ≡ object t) (Below t (Class c) (Class d)))

-- an object is an instance of its class and of what this is a subtype of; every array is one of object, an array of primitives is one of
-- its own type, and an array of references one of the arrays of what its elements are a subtype of
abbrev pub IsInstance : ClassTable → ObjectKind → Ty → Type 0
IsInstance t (Instance c) (Class d) = IsSubtype t c d
IsInstance t array (Class d) = d ≡ object t
IsInstance t (References c) (ArrRef d) = IsSubtype t c d
IsInstance t Booleans ArrBool = ⊤
IsInstance t Bytes ArrByte = ⊤
IsInstance t Shorts ArrShort = ⊤
IsInstance t Ints ArrInt = ⊤
IsInstance t kind ty = ⊥

-- its class or interface, where it has one, has a record
abbrev pub IsRecorded : ClassTable → ObjectKind → Type 0
IsRecorded t (Instance c) = c < length t.records
IsRecorded t (References c) = c < length t.records
IsRecorded t kind = ⊤

-- the class or interface of the type, where it has one, has a record
abbrev pub IsNamed : ClassTable → Ty → Type 0
IsNamed t (Class d) = d < length t.records
IsNamed t (ArrRef d) = d < length t.records
IsNamed t ty = ⊤

-- ---- the same as it is computed

abbrev pub is_subtype : ClassTable → ℕ → ℕ → Bool
is_subtype t c d =
    if is_interface t d
    then (if is_interface t c then is_or_extends t c d else implements t c d)
    else (if is_interface t c then d == object t else is_on_chain t d c)

-- whether this is the type of every object and array
abbrev pub is_object : ClassTable → Ty → Bool
is_object t (Class d) = d == object t
is_object t ty = false

abbrev pub is_instance : ClassTable → ObjectKind → Ty → Bool
is_instance t (Instance c) (Class d) = is_subtype t c d
is_instance t (References c) (ArrRef d) = is_subtype t c d
is_instance t (Instance c) ty = false
is_instance t Booleans ArrBool = true
is_instance t Bytes ArrByte = true
is_instance t Shorts ArrShort = true
is_instance t Ints ArrInt = true
is_instance t array ty = is_object t ty
