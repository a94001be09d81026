-- What is left of the fields and methods of several classes.
use Rattle.std.specs.Prelude.{List, ◌++◌}
use Rattle.offset_set.specs.Bits.{holds}
use Rattle.cap_desc.specs.declared.records.MethodsOf.{MethodsOf}
use Rattle.cap_desc.specs.declared.records.MethodsBut.{MethodsBut}
use Rattle.cap_desc.specs.declared.records.FieldsOf.{FieldsOf}
use Rattle.cap_desc.specs.DescriptorFormat.{FieldDescriptor, MethodDescriptor}
use Rattle.cap_desc.specs.MemberLists.{fields_left, methods_left}
use Rattle.cap_desc.specs.ClassRecords.{described_left}
use Rattle.cap_desc.specs.Members.{methods_of, methods_but, fields_of}

abbrev pub methods_of_left : MethodsOf → List MethodDescriptor
methods_of_left x = methods_left x.methods ++ methods_of (described_left x.classes)

abbrev pub methods_but_left : MethodsBut → List MethodDescriptor
methods_but_left x = methods_left x.methods ++ methods_but (holds x.set.now) (described_left x.classes)

abbrev pub fields_of_left : FieldsOf → List FieldDescriptor
fields_of_left x = fields_left x.fields ++ fields_of (described_left x.classes)
