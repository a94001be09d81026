-- Where described methods stand in the Method component (JCVM 2.2, section 6.9).
use Rattle.std.specs.Prelude.{ℕ, ◌+◌, ◌*◌, Bool, List, length, Option, Some, None, min, max, nat_lt, ◌||◌}
use Rattle.std.specs.Prelude.{if◌then◌else◌}
use Rattle.cap_desc.specs.DescriptorFormat.{MethodDescriptor}
pub use Rattle.cap_components.specs.MethodPlaces.{size_by}
unfoldable pub use Rattle.cap_components.specs.MethodPlaces.{code_start, code_end}
use Rattle.cap_components.specs.declared.fault.PackFault.{PackFault}
use Rattle.cap_components.specs.declared.fault.PackFault.TheVariants.{MethodOverlaps, MethodOutside}

-- two methods share a byte of the info
abbrev pub share_byte : List ℕ → MethodDescriptor → MethodDescriptor → Bool
share_byte info a b = nat_lt (max a.method_offset b.method_offset) (min (min (code_end info a) (code_end info b)) (length info))

unfoldable pub overlap_fault : List ℕ → MethodDescriptor → MethodDescriptor → Option PackFault
overlap_fault info a b = if share_byte info a b
    then Some (MethodOverlaps (min a.method_offset b.method_offset) (max a.method_offset b.method_offset))
    else None

abbrev pub overlap_pair : List ℕ → MethodDescriptor × MethodDescriptor → Option PackFault
overlap_pair info p = overlap_fault info p.0 p.1

-- a method begins in the handler table, or reaches past the info
unfoldable pub outside_fault : List ℕ → ℕ → MethodDescriptor → Option PackFault
outside_fault info handler_count m =
    if nat_lt m.method_offset (1 + 8 * handler_count) || nat_lt (length info) (code_end info m)
    then Some (MethodOutside m.method_offset) else None
