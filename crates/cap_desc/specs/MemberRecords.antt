-- A field's and a method's descriptor as values of the program.
use Rattle.cap_desc.specs.declared.records.FieldInfo.{FieldInfo}
use Rattle.cap_desc.specs.declared.records.MethodInfo.{MethodInfo}
use Rattle.cap_desc.specs.DescriptorFormat.{FieldDescriptor, MethodDescriptor}

abbrev pub field_seen : FieldInfo → FieldDescriptor
field_seen f = record { token = f.token; flags = f.flags.0; bytes = f.bytes; ty = f.ty }

abbrev pub method_seen : MethodInfo → MethodDescriptor
method_seen m = record {
  token = m.token;
  flags = m.flags.0;
  method_offset = m.method_offset;
  type_offset = m.type_offset;
  bytecode_count = m.bytecode_count;
  handler_count = m.handler_count;
  handler_index = m.handler_index;
}
