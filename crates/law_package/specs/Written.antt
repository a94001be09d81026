-- What each method is that is written anew, and where it and its handlers stand (JCVM 2.2, section 6.9).
use Rattle.std.specs.Prelude.{◌≡◌, ◌+◌, ◌*◌, ℕ, Bool, List, length, take, drop, filter, sum_by, Option, Some, None, nat_lt}
use Rattle.std.specs.Prelude.{◌==◌, if◌then◌else◌}
use Rattle.cap_bytes.specs.Number.{number_at}
use Rattle.cap_desc.specs.DescriptorFormat.{MethodDescriptor}
use Rattle.cap_components.specs.MethodPlaces.{size_by, code_start}
use Rattle.cap_components.specs.PackageRecord.{PackageRecord, code_of, handlers_of}
use Rattle.cap_package.specs.HeaderChecks.{header_in}
use Rattle.cap_laying.specs.HeaderBytes.{header_of}
use Rattle.cap_laying.specs.HandlerTable.{entries_at}
use Rattle.cap_laying.specs.Member.{numbers_of}
use Rattle.jc_decode.specs.declared.symbols.Laid.{Laid}
use Rattle.law_package.specs.Changes.{FormerMethod, Change}

-- ---- what it is

-- it has the code that is laid, with its numbers and its handlers
pub record HasCode (q : PackageRecord) (laid : Laid) (m : MethodDescriptor) : Type 0 where
  pub header : header_in q.methods.info m.method_offset ≡ Some (header_of (numbers_of laid))
  pub long : m.bytecode_count ≡ length laid.code
  pub code : code_of q m ≡ laid.code
  pub many : m.handler_count ≡ length laid.handlers
  pub handlers : handlers_of q m ≡ entries_at (code_start q.methods.info m) laid.handlers

-- the bytes of the header that stands at an offset of the Method component
unfoldable pub lead_bytes : List ℕ → ℕ → List ℕ
lead_bytes info offset = take (size_by (number_at 1 offset info)) (drop offset info)

-- it has the header that it had, and no code
pub record HasHeader (p q : PackageRecord) (old m : MethodDescriptor) : Type 0 where
  pub header : lead_bytes q.methods.info m.method_offset ≡ lead_bytes p.methods.info old.method_offset
  pub no_code : m.bytecode_count ≡ 0
  pub no_handlers : m.handler_count ≡ 0

abbrev pub IsAs : PackageRecord → PackageRecord → MethodDescriptor → Option Laid → MethodDescriptor → Type 0
IsAs p q old None m = HasHeader p q old m
IsAs p q old (Some laid) m = HasCode q laid m

-- ---- where it stands

-- the bytes of its header and its code
abbrev pub size_written : PackageRecord → Change → ℕ
size_written q c = size_by (number_at 1 c.now.method_offset q.methods.info) + c.now.bytecode_count

abbrev pub handlers_in : Change → ℕ
handlers_in c = c.now.handler_count

-- methods keep the order of their offsets
abbrev pub stood_before : Change → Change → Bool
stood_before c other = nat_lt other.source.method.method_offset c.source.method.method_offset

-- where its handlers stood in the table; those of a method that had none follow the others, in the order of the Descriptor
abbrev pub block_of : PackageRecord → FormerMethod → ℕ
block_of p s = if s.method.handler_count == 0 then length p.methods.handlers + s.number else s.method.handler_index

-- handlers keep the order of the table
abbrev pub caught_before : PackageRecord → Change → Change → Bool
caught_before p c other = nat_lt (block_of p other.source) (block_of p c.source)

-- where the methods begin: after the handler table
abbrev pub methods_begin : PackageRecord → ℕ
methods_begin q = 1 + 8 * length q.methods.handlers

-- among these methods it is as it is to be; it stands after the handler table and the methods that stood before it, and its
-- handlers stand after theirs
pub record IsMethodWritten (p q : PackageRecord) (all : List Change) (c : Change) : Type 0 where
  pub is : IsAs p q c.source.method c.source.laid c.now
  pub place : c.now.method_offset ≡ methods_begin q + sum_by (size_written q) (filter (stood_before c) all)
  pub index : c.now.handler_index ≡ (if c.now.handler_count == 0 then 0 else sum_by handlers_in (filter (caught_before p c) all))
