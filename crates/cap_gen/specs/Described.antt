-- The Descriptor and the ReferenceLocation of a generated package (JCVM 2.2, sections 6.11 and 6.13). They are the same for
-- every seed.
use Rattle.std.specs.Prelude.{◌≡◌, refl, ℕ, ◌+◌, ◌*◌, List, [], ◌∷◌, ◌++◌, map, replicate}
use Rattle.std.specs.List.{flat_map, range_with_len}
use Rattle.byteorder.specs.Endian.{big_bytes}
use Rattle.cap_desc.specs.DescriptorFormat.{MethodDescriptor, FieldDescriptor, ClassDescriptor, Descriptor}
use Rattle.cap_gen.specs.Methods.{each_method, method_offset, code_size_of_kind, handler_count, handler_index}

-- a method: public and static, of the type whose descriptor stands after the types of two pool entries
abbrev pub method : ℕ → MethodDescriptor
method k = record {
  token = k;
  flags = 9;
  method_offset = method_offset k;
  type_offset = 6;
  bytecode_count = code_size_of_kind k;
  handler_count = handler_count k;
  handler_index = handler_index k;
}

unfoldable pub methods : List MethodDescriptor
methods = map method (range_with_len 0 200)

-- its record
unfoldable pub described_bytes : ℕ → List ℕ
described_bytes k = k ∷ 9 ∷ (big_bytes 2 (method_offset k) ++ (big_bytes 2 6 ++ (big_bytes 2 (code_size_of_kind k)
    ++ (big_bytes 2 (handler_count k) ++ big_bytes 2 (handler_index k)))))

-- a static field of a short, at the first offset of the image
abbrev pub field : FieldDescriptor
field = record { token = 0; flags = 9; bytes = 0 ∷ 0 ∷ 0 ∷ []; ty = 0x8004 }

-- the class with the methods, the first of eight records of ten bytes after the size of the signature pool
abbrev pub first_class : ClassDescriptor
first_class = record { token = 0; class_ref = 2; interfaces = []; fields = field ∷ []; methods = methods }

-- the other classes have no members: their tokens are from 1 on, and each stands ten bytes after the one before it
abbrev pub memberless_class : ℕ → ClassDescriptor
memberless_class token =
    record { token = token; class_ref = 2 + 10 * token; interfaces = []; fields = []; methods = [] }

abbrev pub memberless_bytes : ℕ → List ℕ
memberless_bytes token = token ∷ 1 ∷ (big_bytes 2 (2 + 10 * token) ++ replicate 5 0)

-- the info of the Descriptor. Of eight classes, the first with a static field of a short and two hundred methods, and seven without
-- members; then the types: none of two pool entries, and that of two shorts and a result of a short
unfoldable pub descriptor_bytes : List ℕ
descriptor_bytes =
    8 ∷ 0 ∷ 1 ∷ 0 ∷ 2 ∷ 0 ∷ 0 ∷ 1 ∷ 0 ∷ 200 ∷ 0 ∷ 9 ∷ 0 ∷ 0 ∷ 0 ∷ 0x80 ∷ 4 ∷ (each_method described_bytes
    ++ (flat_map memberless_bytes (range_with_len 1 7) ++ 0 ∷ 2 ∷ 0xFF ∷ 0xFF ∷ 0xFF ∷ 0xFF ∷ 3 ∷ 0x44 ∷ 0x40 ∷ []))

-- what it says: the types of the pool stand after 2480 bytes
abbrev pub descriptor : Descriptor
descriptor = record {
  classes = first_class ∷ map memberless_class (range_with_len 1 7);
  types_start = 2480;
  pool_types = 0xFFFF ∷ 0xFFFF ∷ [];
}

-- the places in the Method component that name a pool entry: no instruction does, and of the handlers the first of each of fifty methods.
-- The first such place is 7, and each of the others stands 16 bytes after the one before it
unfoldable pub location_bytes : List ℕ
location_bytes = 0 ∷ 0 ∷ 0 ∷ 50 ∷ 7 ∷ replicate 49 16

-- the 23rd method, which has 12 bytes of code from 1155 on and the entries 10 and 11 of the handler table
its_record : described_bytes 22 ≡ 22 ∷ 9 ∷ 4 ∷ 0x81 ∷ 0 ∷ 6 ∷ 0 ∷ 12 ∷ 0 ∷ 2 ∷ 0 ∷ 10 ∷ []
unfolding described_bytes
its_record = refl
