-- The instance fields that classes have of their own, each with its type (JCVM 2.2, sections 6.8 and 6.13.2).
use Rattle.std.specs.Prelude.{ℕ, ◌+◌, Bool, List, [], ◌∷◌, Option, None, option_map, filter, filter_map, flat_map, fold, max}
use Rattle.std.specs.Prelude.{◌==◌, if◌then◌else◌}
use Rattle.std.specs.List.{range_with_len}
use Rattle.cap_class.specs.ClassFormat.{Class, is_interface}
use Rattle.cap_desc.specs.declared.type_list.TypeItem.{TypeItem}
use Rattle.cap_desc.specs.DescriptorFormat as described
use Rattle.cap_package.specs.Descriptions.{Description, field_type}
use Rattle.cap_package.specs.HeaderChecks.{is_static}
use Rattle.cap_package.specs.PackageRecord.{PackageRecord}
use Rattle.jc_base.specs.declared.ty.Ty.{Ty}
use Rattle.jc_base.specs.declared.ty.Ty.TheVariants.{IntLow}
use Rattle.jc_base.specs.declared.ty.Kind.{Kind}
use Rattle.jc_base.specs.declared.ty.Kind.TheVariants.{Int}
use Rattle.cap_desc.specs.DescriptorFormat.{instance_token}
use Rattle.jc_resolve.specs.declared.field_records.OwnField.{OwnField}
use Rattle.jc_resolve.specs.NamedClasses.{describes}
use Rattle.jc_resolve.specs.WorldTypes.{type_of, kind_of}

-- ---- the fields of a class

-- an instance field, by its description in the package k; `object` is the number of class object
abbrev pub field_with : List PackageRecord → ℕ → ℕ → described.FieldDescriptor → TypeItem → OwnField
field_with ps object k f ty = record { token = instance_token f; kind = kind_of ty; ty = type_of ps object k ty }

unfoldable pub own_field : List PackageRecord → ℕ → ℕ → Description → described.FieldDescriptor → Option OwnField
own_field ps object k d f = if is_static f.flags then None else option_map (field_with ps object k f) (field_type d f.ty)

-- those that a record of the Descriptor has of the class at an offset
abbrev pub fields_in : List PackageRecord → ℕ → ℕ → Description → ℕ → described.ClassDescriptor → List OwnField
fields_in ps object k d offset c = if describes offset c then filter_map (own_field ps object k d) c.fields else []

-- the fields of a class of its own; an interface has none
unfoldable pub own_fields : List PackageRecord → ℕ → ℕ → PackageRecord → Class → List OwnField
own_fields ps object k p c = if is_interface c.flags then []
    else flat_map (fields_in ps object k p.description c.offset) p.description.items.classes

-- ---- their cells

-- the types of the cells of a field of a kind, by the type of the first
abbrev pub cells_by_kind : Kind → Ty → List Ty
cells_by_kind Int ty = ty ∷ IntLow ∷ []
cells_by_kind _ ty = ty ∷ []

abbrev pub cells_of_own : OwnField → List Ty
cells_of_own f = cells_by_kind f.kind f.ty

abbrev pub bears_token : ℕ → OwnField → Bool
bears_token token f = f.token == token

abbrev pub own_with_token : List OwnField → ℕ → List OwnField
own_with_token own token = filter (bears_token token) own

-- the cells of the fields with n tokens from a on, token by token
abbrev pub cells_over : List OwnField → ℕ → ℕ → List Ty
cells_over own a n = flat_map cells_of_own (flat_map (own_with_token own) (range_with_len a n))

-- the token after the greatest of fields
unfoldable pub tokens_end : List OwnField → ℕ
tokens_end own = fold (λ end (f : OwnField). max end (f.token + 1)) 0 own
