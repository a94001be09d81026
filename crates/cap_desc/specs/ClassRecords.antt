-- A class descriptor as a value of the program, and what is left of a list of them.
use Rattle.std.specs.Prelude.{List, []}
use Rattle.cap_bytes.specs.Grammar.{repeat}
use Rattle.cap_bytes.specs.Table.{numbers}
use Rattle.cap_bytes.specs.Taking.{given}
use Rattle.cap_desc.specs.declared.records.DescClass.{DescClass}
use Rattle.cap_desc.specs.declared.records.DescClasses.{DescClasses}
use Rattle.cap_desc.specs.DescriptorFormat.{ClassDescriptor, class_descriptor_info}
use Rattle.cap_desc.specs.MemberLists.{fields_left, methods_left}

abbrev pub described_class_seen : DescClass → ClassDescriptor
described_class_seen c = record {
  token = c.token;
  class_ref = c.class_ref;
  interfaces = numbers c.interfaces;
  fields = fields_left c.fields;
  methods = methods_left c.methods;
}

abbrev pub described_left : DescClasses → List ClassDescriptor
described_left x = given [] (repeat x.left class_descriptor_info) x.items
