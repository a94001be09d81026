-- Classes and interfaces with each class and method that their records name by number (JCVM 2.2, section 6.8).
use Rattle.std.specs.Prelude.{ℕ, Bool, true, false, not, List, [], map, filter, filter_map, flat_map, Option, Some, None, option_map}
use Rattle.std.specs.Prelude.{◌==◌, ◌&&◌, if◌then◌else◌}
use Rattle.std.specs.List.{range_with_len}
use Rattle.cap_class.specs.ClassFormat.{Class, Interface, is_interface}
use Rattle.cap_desc.specs.declared.type_list.TypeItem.{TypeItem}
use Rattle.cap_desc.specs.DescriptorFormat as described
use Rattle.cap_desc.specs.DescriptorFormat.{FieldDescriptor, instance_token}
use Rattle.cap_package.specs.Descriptions.{Description, field_type}
use Rattle.cap_package.specs.HeaderChecks.{is_static}
use Rattle.cap_package.specs.PackageRecord.{PackageRecord}
use Rattle.jc_base.specs.declared.ty.Ty.{Ty}
use Rattle.jc_base.specs.declared.record.Iface.{Iface}
use Rattle.jc_resolve.specs.declared.naming.NamedClass.{NamedClass}
use Rattle.jc_resolve.specs.declared.naming.DispatchTable.{DispatchTable}
use Rattle.jc_resolve.specs.Numbering.{NumberedClass, numbered_classes, method_at}
use Rattle.jc_resolve.specs.References.{class_named, is_internal}
use Rattle.jc_resolve.specs.WorldTypes.{cells_of_type}

-- ---- cells

-- a record of the Descriptor is that of the class at an offset
abbrev pub describes : ℕ → described.ClassDescriptor → Bool
describes offset d = is_internal offset && d.class_ref == offset

-- the instance fields that the Descriptor describes of the class at an offset
abbrev pub is_instance_field : FieldDescriptor → Bool
is_instance_field f = not (is_static f.flags)

unfoldable pub fields_described : ℕ → described.ClassDescriptor → List FieldDescriptor
fields_described offset d = if describes offset d then filter is_instance_field d.fields else []

unfoldable pub instance_fields : List described.ClassDescriptor → ℕ → List FieldDescriptor
instance_fields classes offset = flat_map (fields_described offset) classes

abbrev pub has_token : ℕ → FieldDescriptor → Bool
has_token token f = instance_token f == token

unfoldable pub with_token : List FieldDescriptor → ℕ → List FieldDescriptor
with_token fields token = filter (has_token token) fields

-- fields in the order of their tokens; those with one token as they come
abbrev pub by_token : List FieldDescriptor → List FieldDescriptor
by_token fields = flat_map (with_token fields) (range_with_len 0 256)

abbrev pub cells_by : List PackageRecord → ℕ → ℕ → Option TypeItem → List Ty
cells_by ps object k None = []
cells_by ps object k (Some t) = cells_of_type ps object k t

unfoldable pub cells_of_field : List PackageRecord → ℕ → ℕ → Description → FieldDescriptor → List Ty
cells_of_field ps object k d f = cells_by ps object k (field_type d f.ty)

-- the types of the cells of instance fields: in the order of the fields' tokens
unfoldable pub cells_of_fields : List PackageRecord → ℕ → ℕ → Description → List FieldDescriptor → List Ty
cells_of_fields ps object k d fields = flat_map (cells_of_field ps object k d) (by_token fields)

-- ---- tables

-- an entry of a dispatch table is the offset of a method; 0xFFFF keeps the superclass's entry
unfoldable pub dispatch_entry : List PackageRecord → ℕ → ℕ → Option ℕ
dispatch_entry ps k offset = if offset == 0xFFFF then None else method_at ps (record { «package» = k; offset = offset })

abbrev pub dispatch_table : List PackageRecord → ℕ → ℕ → List ℕ → DispatchTable
dispatch_table ps k base offsets = record { base = base; entries = map (dispatch_entry ps k) offsets }

abbrev pub no_table : DispatchTable
no_table = record { base = 0; entries = [] }

-- ---- classes

unfoldable pub interface_named : List PackageRecord → ℕ → Interface → Option Iface
interface_named ps k i = option_map (λ c. record { class = c; tokens = i.tokens }) (class_named ps k i.class_ref)

abbrev pub implemented_interfaces : List PackageRecord → ℕ → List Interface → List Iface
implemented_interfaces ps k = filter_map (interface_named ps k)

-- 0xFFFF is no superclass
abbrev pub parent_named : List PackageRecord → ℕ → ℕ → Option ℕ
parent_named ps k reference = if reference == 0xFFFF then None else class_named ps k reference

-- an interface of the package k has interfaces alone
abbrev pub interface_with : ℕ → List Iface → NamedClass
interface_with k interfaces = record {
  «package» = k;
  interface = true;
  parent = None;
  interfaces = interfaces;
  public = no_table;
  visible = no_table;
  own = [];
}

abbrev pub interface_in : List PackageRecord → ℕ → Class → NamedClass
interface_in ps k r = interface_with k (implemented_interfaces ps k r.interfaces)

abbrev pub named_interface : List PackageRecord → NumberedClass → NamedClass
named_interface ps c = interface_in ps c.home c.record_of

abbrev pub named_proper : List PackageRecord → ℕ → NumberedClass → NamedClass
named_proper ps object c = record {
  «package» = c.home;
  interface = false;
  parent = parent_named ps c.home c.record_of.super_ref;
  interfaces = implemented_interfaces ps c.home c.record_of.interfaces;
  public = dispatch_table ps c.home c.record_of.public_base c.record_of.public;
  visible = dispatch_table ps c.home c.record_of.package_base c.record_of.visible;
  own = cells_of_fields ps object c.home c.of_package.description
      (instance_fields c.of_package.description.items.classes c.record_of.offset);
}

unfoldable pub named_class : List PackageRecord → ℕ → NumberedClass → NamedClass
named_class ps object c = if is_interface c.record_of.flags then named_interface ps c else named_proper ps object c

-- the classes of all packages by number; `object` is the number of class object
unfoldable pub named_classes : List PackageRecord → ℕ → List NamedClass
named_classes ps object = map (named_class ps object) (numbered_classes ps)
