-- Things that reach over the first byte of a neighbour. Of things that lie one after the other no two share a byte exactly
-- where none reaches to the nearest other that starts from its own start on.
use Rattle.std.specs.Prelude.{◌≡◌, refl, ℕ, ◌+◌, List, length, Option, Some, None, min, nat_lt, if◌then◌else◌}
use Rattle.offset_set.specs.Sets.{nearest}
use Rattle.cap_desc.specs.DescriptorFormat.{MethodDescriptor}
use Rattle.cap_components.specs.declared.fault.PackFault.{PackFault}
use Rattle.cap_components.specs.declared.fault.PackFault.TheVariants.{MethodOverlaps, StaticOverlaps}
use Rattle.cap_package.specs.MethodChecks.{code_end}
use Rattle.cap_package.specs.StaticChecks.{ImagePlace, width_of}

-- what reaches from a start to an end is at fault where the next one starts before that end
abbrev pub reach_by : (ℕ → ℕ → PackFault) → ℕ → ℕ → Option ℕ → Option PackFault
reach_by fault start end None = None
reach_by fault start end (Some next) = if nat_lt next end then Some (fault start next) else None

-- the offset that no byte of a method reaches: the one after its code, or after the info
abbrev pub method_end : List ℕ → MethodDescriptor → ℕ
method_end info m = min (code_end info m) (length info)

abbrev pub method_start : MethodDescriptor → ℕ
method_start m = m.method_offset

-- the offset after the bytes of a static field in the image
abbrev pub static_end : ImagePlace → ℕ
static_end p = p.offset + width_of p.ty

abbrev pub static_start : ImagePlace → ℕ
static_start p = p.offset

-- a method reaches over the start of the next one, of methods that start at these offsets
unfoldable pub method_reach : List ℕ → List ℕ → MethodDescriptor → Option PackFault
method_reach info starts m = reach_by MethodOverlaps m.method_offset (method_end info m) (nearest starts m.method_offset)

-- a static field reaches over the start of the next one, of fields that start at these offsets
unfoldable pub static_reach : List ℕ → ImagePlace → Option PackFault
static_reach starts p = reach_by StaticOverlaps p.offset (static_end p) (nearest starts p.offset)

-- what ends where the next one starts is apart from it
touching : reach_by MethodOverlaps 4 9 (Some 9) ≡ None
touching = refl

sharing : reach_by MethodOverlaps 4 9 (Some 8) ≡ Some (MethodOverlaps 4 8)
sharing = refl
