-- Methods with each class that their records name by number (JCVM 2.2, sections 6.9 and 6.13).
use Rattle.std.specs.Prelude.{ℕ, ◌+◌, ◌-◌, ◌*◌, ◌≤◌, Bool, true, false, not, List, [], length, map, min, Option, Some}
use Rattle.std.specs.Prelude.{None, unwrap_or, slice_get, slice_index, ◌==◌, ◌&&◌, if◌then◌else◌}
use Rattle.std.specs.Int.RustNames.{bit_and}
use Rattle.cap_pool.specs.PoolFormat.{Entry}
use Rattle.cap_pool.specs.declared.pool_record.PoolReference.{PoolReference}
use Rattle.cap_pool.specs.declared.pool_record.PoolReference.TheVariants.{Class as ClassEntry}
use Rattle.cap_pool.specs.PoolReference.{referred}
use Rattle.cap_method.specs.declared.read_methods.HandlerInfo.{HandlerInfo}
use Rattle.cap_method.specs.MethodFormat.{Header}
use Rattle.cap_package.specs.HeaderChecks.{header_in, is_abstract, is_static}
use Rattle.cap_package.specs.PackageRecord.{PackageRecord, handlers_of}
use Rattle.cap_desc.specs.DescriptorFormat.{ClassDescriptor, MethodDescriptor}
use Rattle.jc_base.specs.declared.record.Handler.{Handler}
use Rattle.jc_base.specs.declared.record.MethodRec.{MethodRec}
use Rattle.jc_base.specs.declared.record.Sig.{Sig}
use Rattle.jc_base.specs.Linked.{receiver_words}
use Rattle.jc_resolve.specs.declared.method_records.Body.{Body}
use Rattle.jc_resolve.specs.Numbering.{NumberedMethod, numbered_methods, is_interface_number, is_placed}
use Rattle.jc_resolve.specs.References.{class_referred, class_named}
use Rattle.jc_resolve.specs.WorldTypes.{declared_signature}

-- ---- handlers

-- the handler table of a package counts its entries in one byte
abbrev pub HasFewHandlers : PackageRecord → Type 0
HasFewHandlers p = length p.methods.handlers ≤ 255

-- the class reference in the first two of three bytes
abbrev pub reference_in : List ℕ → ℕ
reference_in bytes = slice_index bytes 0 * 256 + slice_index bytes 1

-- the class that an entry of a constant pool names, if it is a Classref; 0 where none is named
abbrev pub class_or_none : List PackageRecord → ℕ → PoolReference → ℕ
class_or_none ps k (ClassEntry reference) = unwrap_or (class_referred ps k reference) 0
class_or_none ps k other = 0

abbrev pub class_in_entry : List PackageRecord → ℕ → Option Entry → ℕ
class_in_entry ps k None = 0
class_in_entry ps k (Some e) = class_or_none ps k (referred e)

-- the class that a handler catches, by its catch_type_index: throwable for 0
abbrev pub caught_class : List PackageRecord → ℕ → ℕ → List Entry → ℕ → ℕ
caught_class ps throwable k pool index = if index == 0 then throwable else class_in_entry ps k (slice_get pool index)

-- an offset in an info, which has at most 65,535 bytes
abbrev pub offset_in_info : ℕ → ℕ
offset_in_info n = min n 65535

-- a handler with its places counted from the start of its method's code
unfoldable pub handler_named : List PackageRecord → ℕ → ℕ → List Entry → ℕ → HandlerInfo → Handler
handler_named ps throwable k pool code_at h = record {
  start = h.start - code_at;
  end = offset_in_info (h.start + h.length) - code_at;
  entry = h.entry - code_at;
  index = h.index;
  class = caught_class ps throwable k pool h.index;
}

-- ---- headers and code

-- a method of an interface has no header: its arguments are those of its signature after the receiver, at most 255 words
abbrev pub no_body : ℕ → Sig → Body
no_body flags sig = record {
  is_abstract = true;
  nargs = min (length sig.args + receiver_words (is_static flags)) 255;
  max_locals = 0;
  max_stack = 0;
  code_at = 0;
  code_len = 0;
  handlers = [];
}

-- the code of a method stands after its header
abbrev pub body_after : List PackageRecord → ℕ → ℕ → PackageRecord → MethodDescriptor → Header → ℕ → Body
body_after ps throwable k p m h code_at = record {
  is_abstract = is_abstract h;
  nargs = h.nargs;
  max_locals = h.max_locals;
  max_stack = h.max_stack;
  code_at = code_at;
  code_len = m.bytecode_count;
  handlers = map (handler_named ps throwable k p.pool code_at) (handlers_of p m);
}

abbrev pub body_by : List PackageRecord → ℕ → ℕ → PackageRecord → MethodDescriptor → Sig → Option Header → Body
body_by ps throwable k p m sig None = no_body m.flags sig
body_by ps throwable k p m sig (Some h) = body_after ps throwable k p m h (offset_in_info (m.method_offset + h.size))

unfoldable pub body_of : List PackageRecord → ℕ → ℕ → PackageRecord → MethodDescriptor → Sig → Bool → Body
body_of ps throwable k p m sig has_header = if has_header
    then body_by ps throwable k p m sig (header_in p.methods.info m.method_offset) else no_body m.flags sig

-- ---- methods

-- the class that a record of the Descriptor names
unfoldable pub class_described : List PackageRecord → ℕ → ClassDescriptor → ℕ
class_described ps k c = unwrap_or (class_named ps k c.class_ref) 0

abbrev pub is_class : List PackageRecord → Option ℕ → Bool
is_class ps None = false
is_class ps (Some c) = not (is_interface_number ps c)

-- the methods of a class have headers, and those of an interface have none
unfoldable pub have_headers : List PackageRecord → ℕ → PackageRecord → ClassDescriptor → Bool
have_headers ps k p c = is_placed p c && is_class ps (class_named ps k c.class_ref)

-- ACC_INIT: a constructor
abbrev pub is_init : ℕ → Bool
is_init flags = bit_and flags 128 == 128

abbrev pub method_with : NumberedMethod → ℕ → Sig → Body → MethodRec
method_with m class sig body = record {
  «package» = m.home;
  class = class;
  token = m.record_of.token;
  class_no = m.class_no;
  method_no = m.method_no;
  is_static = is_static m.record_of.flags;
  is_init = is_init m.record_of.flags;
  is_abstract = body.is_abstract;
  sig = sig;
  nargs = body.nargs;
  max_locals = body.max_locals;
  max_stack = body.max_stack;
  code_at = body.code_at;
  code_len = body.code_len;
  handlers = body.handlers;
}

-- a method with a signature
abbrev pub method_as : List PackageRecord → ℕ → NumberedMethod → Sig → MethodRec
method_as ps throwable m sig = method_with m (class_described ps m.home m.class) sig
    (body_of ps throwable m.home m.of_package m.record_of sig (have_headers ps m.home m.of_package m.class))

-- role 0 is the number of class object, role 1 that of class throwable
unfoldable pub named_method : List PackageRecord → List ℕ → NumberedMethod → MethodRec
named_method ps roles m = method_as ps (slice_index roles 1) m
    (declared_signature ps (slice_index roles 0) m.home m.of_package.description m.record_of.type_offset)

-- the methods of all packages by number
unfoldable pub named_methods : List PackageRecord → List ℕ → List MethodRec
named_methods ps roles = map (named_method ps roles) (numbered_methods ps)
