-- Where a described method's code stands in the Method component (JCVM 2.2, section 6.9).
use Rattle.std.specs.Prelude.{ℕ, ◌+◌, List, Option, Some, None, nat_le, if◌then◌else◌}
use Rattle.cap_bytes.specs.Number.{number_at}
use Rattle.cap_desc.specs.DescriptorFormat.{MethodDescriptor}

-- the bytes of a method's header: four where the highest bit of the first is set
abbrev pub size_by : Option ℕ → ℕ
size_by None = 2
size_by (Some first) = if nat_le 128 first then 4 else 2

-- the offset after a method's header
unfoldable pub code_start : List ℕ → MethodDescriptor → ℕ
code_start info m = m.method_offset + size_by (number_at 1 m.method_offset info)

-- the offset after a method's code
unfoldable pub code_end : List ℕ → MethodDescriptor → ℕ
code_end info m = code_start info m + m.bytecode_count
