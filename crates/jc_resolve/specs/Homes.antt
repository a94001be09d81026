-- What a package with its number sees: classes by number over all packages, the roles of classes, and its own records.
use Rattle.std.specs.Prelude.{ℕ, Bool, List, Option, map, slice_index}
use Rattle.cap_class.specs.ClassFormat.{Class}
use Rattle.cap_desc.specs.declared.type_list.TypeItem.{TypeItem}
use Rattle.cap_desc.specs.DescriptorFormat as described
use Rattle.cap_desc.specs.DescriptorFormat.{FieldDescriptor, MethodDescriptor}
use Rattle.cap_method.specs.declared.read_methods.HandlerInfo.{HandlerInfo}
use Rattle.cap_package.specs.Descriptions.{Description}
use Rattle.jc_base.specs.declared.record.Handler.{Handler}
use Rattle.jc_base.specs.declared.record.MethodRec.{MethodRec}
use Rattle.jc_base.specs.declared.ty.Ty.{Ty}
use Rattle.jc_resolve.specs.declared.fault.LinkFault.{LinkFault}
use Rattle.jc_resolve.specs.declared.class_index.Home.{Home}
use Rattle.jc_resolve.specs.declared.naming.NamedClass.{NamedClass}
use Rattle.jc_resolve.specs.declared.field_records.OwnField.{OwnField}
use Rattle.jc_resolve.specs.declared.field_records.PackageFields.{PackageFields}
use Rattle.jc_resolve.specs.LookedUp.{least_named}
use Rattle.jc_resolve.specs.NamedClasses.{named_class}
use Rattle.jc_resolve.specs.NamedMethods.{handler_named, class_described, have_headers, named_method}
use Rattle.jc_resolve.specs.Numbering.{numbered_class, methods_of_class, methods_of_classes}
use Rattle.jc_resolve.specs.OwnFields.{own_field}
use Rattle.jc_resolve.specs.References.{class_named}
use Rattle.jc_resolve.specs.TypedFields.{static_type, fields_of_record, fields_resolved}
use Rattle.jc_resolve.specs.WorldTypes.{type_class, type_of}

-- role 0 is the number of class object, role 1 that of class throwable
abbrev pub object_at : Home → ℕ
object_at h = slice_index h.roles 0

abbrev pub throwable_at : Home → ℕ
throwable_at h = slice_index h.roles 1

-- its Descriptor, and the records there
abbrev pub description_at : Home → Description
description_at h = h.of_package.now.description

abbrev pub records_at : Home → List described.ClassDescriptor
records_at h = (description_at h).items.classes

-- ---- classes and types that it names

abbrev pub class_named_at : Home → ℕ → Option ℕ
class_named_at h = class_named h.index.now h.number

-- the least fault, when class references were looked at after those before
abbrev pub least_at : Home → Option LinkFault → List ℕ → Option LinkFault
least_at h = least_named h.index.now h.number

abbrev pub type_class_at : Home → ℕ → ℕ
type_class_at h = type_class h.index.now (object_at h) h.number

abbrev pub type_at : Home → TypeItem → Ty
type_at h = type_of h.index.now (object_at h) h.number

-- ---- its fields

abbrev pub static_type_at : Home → FieldDescriptor → Option Ty
static_type_at h = static_type h.index.now (object_at h) h.number (description_at h)

abbrev pub own_field_at : Home → FieldDescriptor → Option OwnField
own_field_at h = own_field h.index.now (object_at h) h.number (description_at h)

abbrev pub fields_at : Home → described.ClassDescriptor → List OwnField
fields_at h = fields_of_record h.index.now (object_at h) h.number (description_at h)

abbrev pub resolved_at : Home → PackageFields
resolved_at h = fields_resolved h.index.now (object_at h) h.number h.of_package.now

-- ---- its classes

abbrev pub named_class_at : Home → Class → NamedClass
named_class_at h c = named_class h.index.now (object_at h) (numbered_class h.number h.of_package.now c)

abbrev pub classes_at : Home → List Class → List NamedClass
classes_at h cs = map (named_class h.index.now (object_at h)) (map (numbered_class h.number h.of_package.now) cs)

-- ---- its methods

abbrev pub handler_at : Home → ℕ → HandlerInfo → Handler
handler_at h = handler_named h.index.now (throwable_at h) h.number h.of_package.now.pool

-- the class that a record of the Descriptor names, and whether its methods have headers
abbrev pub described_at : Home → described.ClassDescriptor → ℕ
described_at h = class_described h.index.now h.number

abbrev pub headers_at : Home → described.ClassDescriptor → Bool
headers_at h = have_headers h.index.now h.number h.of_package.now

-- methods of a record, from the number of one on
abbrev pub methods_at : Home → ℕ → described.ClassDescriptor → ℕ → List MethodDescriptor → List MethodRec
methods_at h class_no c n ms = map (named_method h.index.now h.roles) (methods_of_class h.number h.of_package.now class_no c n ms)

-- those of records, from the number of one on
abbrev pub methods_from : Home → ℕ → List described.ClassDescriptor → List MethodRec
methods_from h n cs = map (named_method h.index.now h.roles) (methods_of_classes h.number h.of_package.now n cs)
