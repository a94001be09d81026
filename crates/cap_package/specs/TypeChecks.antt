-- The type descriptors that fields and methods name (JCVM 2.2, section 6.13).
use Rattle.std.specs.Prelude.{ℕ, Option, Some, None, nat_lt, if◌then◌else◌}
use Rattle.cap_desc.specs.declared.type_list.TypeItem.{TypeItem}
use Rattle.cap_desc.specs.DescriptorFormat.{MethodDescriptor, FieldDescriptor}
use Rattle.cap_components.specs.Descriptions.{Description, field_type, argument_words}
use Rattle.cap_components.specs.declared.fault.PackFault.{PackFault}
use Rattle.cap_components.specs.declared.fault.PackFault.TheVariants.{BadType}

-- a field's type is none of a field
abbrev pub field_type_by : ℕ → Option TypeItem → Option PackFault
field_type_by ty None = Some (BadType ty)
field_type_by ty (Some t) = None

unfoldable pub field_type_fault : Description → FieldDescriptor → Option PackFault
field_type_fault d f = field_type_by f.ty (field_type d f.ty)

-- a method's type is none of a method, or has more argument words than are allowed
abbrev pub method_type_by : ℕ → ℕ → Option ℕ → Option PackFault
method_type_by most offset None = Some (BadType offset)
method_type_by most offset (Some words) = if nat_lt most words then Some (BadType offset) else None

unfoldable pub method_type_fault : Description → ℕ → MethodDescriptor → Option PackFault
method_type_fault d most m = method_type_by most m.type_offset (argument_words d m.type_offset)

-- the argument words that a descriptor can tell at all, and those of a method of an interface
abbrev pub any_words : ℕ
any_words = 510

abbrev pub interface_words : ℕ
interface_words = 254
