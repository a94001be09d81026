-- What is left of the lists of a class descriptor.
use Rattle.std.specs.Prelude.{List, []}
use Rattle.cap_bytes.specs.Grammar.{repeat}
use Rattle.cap_bytes.specs.Taking.{given}
use Rattle.cap_desc.specs.declared.records.DescFields.{DescFields}
use Rattle.cap_desc.specs.declared.records.DescMethods.{DescMethods}
use Rattle.cap_desc.specs.DescriptorFormat.{FieldDescriptor, MethodDescriptor, field_descriptor_info, method_descriptor_info}

abbrev pub fields_left : DescFields → List FieldDescriptor
fields_left x = given [] (repeat x.left field_descriptor_info) x.items

abbrev pub methods_left : DescMethods → List MethodDescriptor
methods_left x = given [] (repeat x.left method_descriptor_info) x.items
