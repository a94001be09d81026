-- The format of the Descriptor component (JCVM 2.2, section 6.13): what it tells of the classes, fields
-- and methods of the package, and of the types of the constant pool's entries.
use Rattle.std.specs.Prelude.{ℕ, List, slice_index}
use Rattle.std.specs.Int.RustNames.{bit_and}
use Rattle.cap_bytes.specs.Grammar.{Grammar, u1, u2, piece, repeat, table, counted, place, give, ◌>>=◌}

-- a field_descriptor_info: bytes are the three of its field_ref, ty its type
pub record FieldDescriptor : Type 0 where
  pub token : ℕ
  pub flags : ℕ
  pub bytes : List ℕ
  pub ty : ℕ

-- a method_descriptor_info
pub record MethodDescriptor : Type 0 where
  pub token : ℕ
  pub flags : ℕ
  pub method_offset : ℕ
  pub type_offset : ℕ
  pub bytecode_count : ℕ
  pub handler_count : ℕ
  pub handler_index : ℕ

-- a class_descriptor_info
pub record ClassDescriptor : Type 0 where
  pub token : ℕ
  pub class_ref : ℕ
  pub interfaces : List ℕ
  pub fields : List FieldDescriptor
  pub methods : List MethodDescriptor

-- the component: types_start is the offset of constant_pool_count, from which the offsets of type
-- descriptors count
pub record Descriptor : Type 0 where
  pub classes : List ClassDescriptor
  pub types_start : ℕ
  pub pool_types : List ℕ

-- the token of an instance field, the last byte of its field_ref
abbrev pub instance_token : FieldDescriptor → ℕ
instance_token f = slice_index f.bytes 2

-- the bits of a field's access flags that have a name: public, private, protected, static, final
abbrev pub field_flags : ℕ → ℕ
field_flags byte = bit_and byte 0x1F

-- of a method's: these, abstract and init
abbrev pub method_flags : ℕ → ℕ
method_flags byte = bit_and byte 0xDF

abbrev pub field_descriptor_info : Grammar FieldDescriptor
field_descriptor_info = do
  token ← u1
  flags ← u1
  bytes ← piece 3
  ty ← u2
  give (record { token = token; flags = field_flags flags; bytes = bytes; ty = ty })

abbrev pub method_descriptor_info : Grammar MethodDescriptor
method_descriptor_info = do
  token ← u1
  flags ← u1
  method_offset ← u2
  type_offset ← u2
  bytecode_count ← u2
  handler_count ← u2
  handler_index ← u2
  give (record {
    token = token;
    flags = method_flags flags;
    method_offset = method_offset;
    type_offset = type_offset;
    bytecode_count = bytecode_count;
    handler_count = handler_count;
    handler_index = handler_index;
  })

-- the flags of a class are unread: its record in the Class component tells whether it is an interface
abbrev pub class_descriptor_info : Grammar ClassDescriptor
class_descriptor_info = do
  token ← u1
  flags ← u1
  class_ref ← u2
  interface_count ← u1
  field_count ← u2
  method_count ← u2
  interfaces ← table interface_count
  fields ← repeat field_count field_descriptor_info
  methods ← repeat method_count method_descriptor_info
  give (record { token = token; class_ref = class_ref; interfaces = interfaces; fields = fields; methods = methods })

-- The type descriptors after the pool types are read where an offset names one, and not in order.
abbrev pub descriptor_info : Grammar Descriptor
descriptor_info = do
  classes ← counted class_descriptor_info
  types_start ← place
  pool_types ← u2 >>= table
  give (record { classes = classes; types_start = types_start; pool_types = pool_types })
