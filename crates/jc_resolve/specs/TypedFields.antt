-- The fields of packages, each with its type (JCVM 2.2, sections 6.10 and 6.13): the types of static fields by package, and
-- the instance fields by the records of the Descriptor.
use Rattle.std.specs.Prelude.{ℕ, ◌+◌, List, [], ◌∷◌, Option, Some, None, map, option_map, option_and_then, filter_map}
use Rattle.std.specs.Prelude.{slice_get, if◌then◌else◌}
use Rattle.cap_class.specs.ClassFormat.{Class, is_interface}
use Rattle.cap_desc.specs.declared.type_list.TypeItem.{TypeItem}
use Rattle.cap_desc.specs.DescriptorFormat.{ClassDescriptor, FieldDescriptor}
use Rattle.cap_desc.specs.Members.{fields_of}
use Rattle.cap_package.specs.Agreement.{or_none}
use Rattle.cap_package.specs.Descriptions.{Description, field_type}
use Rattle.cap_package.specs.HeaderChecks.{is_static}
use Rattle.cap_package.specs.PackageRecord.{PackageRecord}
use Rattle.cap_package.specs.StaticChecks.{ImagePlace}
use Rattle.cap_package.specs.StaticPlaces.{static_places}
use Rattle.jc_base.specs.declared.ty.Ty.{Ty}
use Rattle.jc_resolve.specs.declared.field_records.OwnField.{OwnField}
use Rattle.jc_resolve.specs.declared.field_records.PackageFields.{PackageFields}
use Rattle.jc_resolve.specs.Described.{place_at, spot_of_record}
use Rattle.jc_resolve.specs.Numbers.{none_numbered, number_by_place, with_all}
use Rattle.jc_resolve.specs.OwnFields.{own_field, own_fields}
use Rattle.jc_resolve.specs.References.{is_internal}
use Rattle.jc_resolve.specs.WorldTypes.{type_of}

abbrev pub static_by : List PackageRecord → ℕ → ℕ → FieldDescriptor → Option TypeItem → Option Ty
static_by ps object k f None = None
static_by ps object k f (Some t) = if is_static f.flags then Some (type_of ps object k t) else None

-- the type of a field of the package k, where it is static; `object` is the number of class object
unfoldable pub static_type : List PackageRecord → ℕ → ℕ → Description → FieldDescriptor → Option Ty
static_type ps object k d f = static_by ps object k f (field_type d f.ty)

-- the instance fields of a record of the Descriptor
abbrev pub fields_of_record : List PackageRecord → ℕ → ℕ → Description → ClassDescriptor → List OwnField
fields_of_record ps object k d c = filter_map (own_field ps object k d) c.fields

-- the fields of the package k
unfoldable pub fields_resolved : List PackageRecord → ℕ → ℕ → PackageRecord → PackageFields
fields_resolved ps object k p = record {
  statics = filter_map (static_type ps object k p.description) (fields_of p.description.items.classes);
  records = map (fields_of_record ps object k p.description) p.description.items.classes;
  numbers = with_all none_numbered (map spot_of_record p.description.items.classes);
}

-- those of packages, from a package's number on
abbrev pub fields_after : List PackageRecord → ℕ → ℕ → List PackageRecord → List PackageFields
fields_after ps object k [] = []
fields_after ps object k (p ∷ qs) = fields_resolved ps object k p ∷ fields_after ps object (k + 1) qs

-- the instance fields of the first record of the class at an offset, which is less than 0x8000
unfoldable pub own_found : PackageFields → ℕ → List OwnField
own_found x offset = if is_internal offset
    then or_none (option_and_then (slice_get x.records) (number_by_place x.numbers.entries (place_at offset))) else []

-- ---- by the number of a package

-- the types of static fields, and the fields that a class has of its own, where the fields of packages are known
abbrev pub types_kept : List PackageFields → ℕ → List Ty
types_kept all k = or_none (option_map (λ (x : PackageFields). x.statics) (slice_get all k))

unfoldable pub own_kept : List PackageFields → ℕ → Class → List OwnField
own_kept all k c = if is_interface c.flags then []
    else or_none (option_map (λ (x : PackageFields). own_found x c.offset) (slice_get all k))

abbrev pub static_field_types_by : List PackageRecord → ℕ → ℕ → Option PackageRecord → List Ty
static_field_types_by ps object k None = []
static_field_types_by ps object k (Some p) = map (λ (f : ImagePlace). type_of ps object k f.ty) (static_places p)

-- the types of the static fields of the package k, in the order of their places
unfoldable pub static_field_types : List PackageRecord → ℕ → ℕ → List Ty
static_field_types ps object k = static_field_types_by ps object k (slice_get ps k)

abbrev pub own_fields_by : List PackageRecord → ℕ → ℕ → Class → Option PackageRecord → List OwnField
own_fields_by ps object k c None = []
own_fields_by ps object k c (Some p) = own_fields ps object k p c

-- the instance fields that a class of the package k has of its own
unfoldable pub own_fields_in : List PackageRecord → ℕ → ℕ → Class → List OwnField
own_fields_in ps object k c = own_fields_by ps object k c (slice_get ps k)
