-- The types of a world that type descriptors stand for (JCVM 2.2, sections 2.2 and 6.13.4):
-- boolean, byte and short are Short, an interface is class object, and an array of an interface an
-- array of object.
use Rattle.std.specs.Prelude.{ℕ, ◌+◌, List, [], ◌∷◌, ◌++◌, Option, Some, None, ◌==◌, ◌||◌, if◌then◌else◌}
use Rattle.cap_desc.specs.declared.type_list.TypeItem.{TypeItem}
use Rattle.cap_desc.specs.TypeFormat.{types_at}
use Rattle.cap_package.specs.Descriptions.{Description}
use Rattle.cap_package.specs.Agreement.{or_none}
use Rattle.cap_package.specs.PackageRecord.{PackageRecord}
use Rattle.jc_base.specs.declared.ty.Ty.{Ty}
use Rattle.jc_base.specs.declared.ty.Ty.TheVariants.{Short, IntHigh, IntLow, Class, ArrBool, ArrByte, ArrShort, ArrInt, ArrRef}
use Rattle.jc_base.specs.declared.ty.Kind.{Kind}
use Rattle.jc_base.specs.declared.ty.Kind.TheVariants as kinds
use Rattle.jc_base.specs.declared.record.Sig.{Sig}
use Rattle.jc_resolve.specs.Numbering.{is_interface_number}
use Rattle.jc_resolve.specs.References.{class_named}

-- the class as which a type knows what was named: object where that is an interface, or no class
abbrev pub class_or_object : List PackageRecord → ℕ → Option ℕ → ℕ
class_or_object ps object None = object
class_or_object ps object (Some c) = if is_interface_number ps c then object else c

abbrev pub type_class : List PackageRecord → ℕ → ℕ → ℕ → ℕ
type_class ps object k reference = class_or_object ps object (class_named ps k reference)

-- the type of a value, by the nibble of its type; void has none
unfoldable pub type_of : List PackageRecord → ℕ → ℕ → TypeItem → Ty
type_of ps object k t =
    if t.nibble == 5 then IntHigh
    else (if t.nibble == 6 then Class (type_class ps object k t.class_ref)
    else (if t.nibble == 10 then ArrBool
    else (if t.nibble == 11 then ArrByte
    else (if t.nibble == 12 then ArrShort
    else (if t.nibble == 13 then ArrInt
    else (if t.nibble == 14 then ArrRef (type_class ps object k t.class_ref)
    else Short))))))

-- the types of the cells that a value takes: an int has two
abbrev pub cells_with : TypeItem → Ty → List Ty
cells_with t ty = if t.nibble == 5 then IntHigh ∷ IntLow ∷ [] else ty ∷ []

abbrev pub cells_of_type : List PackageRecord → ℕ → ℕ → TypeItem → List Ty
cells_of_type ps object k t = cells_with t (type_of ps object k t)

-- how a field keeps a value of a type: boolean and byte as a byte
unfoldable pub kind_of : TypeItem → Kind
kind_of t =
    if t.nibble == 2 || t.nibble == 3 then kinds.Byte
    else (if t.nibble == 4 then kinds.Short
    else (if t.nibble == 5 then kinds.Int
    else kinds.Ref))

-- ---- signatures

-- of the types that a method's descriptor begins with, the last is the result, and those before it the arguments
abbrev pub arguments_before : List PackageRecord → ℕ → ℕ → TypeItem → List TypeItem → List Ty
arguments_before ps object k t [] = []
arguments_before ps object k t (u ∷ us) = cells_of_type ps object k t ++ arguments_before ps object k u us

abbrev pub result_after : List PackageRecord → ℕ → ℕ → TypeItem → List TypeItem → Option Ty
result_after ps object k t [] = if t.nibble == 1 then None else Some (type_of ps object k t)
result_after ps object k t (u ∷ us) = result_after ps object k u us

abbrev pub signature_in : List PackageRecord → ℕ → ℕ → List TypeItem → Sig
signature_in ps object k [] = record { args = []; result = None }
signature_in ps object k (t ∷ ts) = record { args = arguments_before ps object k t ts; result = result_after ps object k t ts }

-- the types of the descriptor at an offset
abbrev pub types_named : Description → ℕ → List TypeItem
types_named d offset = or_none (types_at d.info (d.items.types_start + offset))

-- the signature of the method whose type descriptor stands at an offset
unfoldable pub declared_signature : List PackageRecord → ℕ → ℕ → Description → ℕ → Sig
declared_signature ps object k d offset = signature_in ps object k (types_named d offset)
