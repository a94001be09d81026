-- The entries of the handler table and the methods that own them (JCVM 2.2, section 6.9.1).
use Rattle.std.specs.Prelude.{ℕ, ◌+◌, Bool, false, List, [], ◌∷◌, Option, Some, None, filter, max, nat_lt, nat_le, ◌==◌}
use Rattle.std.specs.Prelude.{◌&&◌, not, if◌then◌else◌}
use Rattle.cap_method.specs.declared.read_methods.HandlerInfo.{HandlerInfo}
use Rattle.cap_desc.specs.DescriptorFormat.{MethodDescriptor}
use Rattle.cap_package.specs.MethodChecks.{code_start, code_end}
use Rattle.cap_components.specs.declared.fault.PackFault.{PackFault}
use Rattle.cap_components.specs.declared.fault.PackFault.TheVariants.{HandlerOutside}

-- a method claims so many entries from its index on
abbrev pub claims : ℕ → MethodDescriptor → Bool
claims number m = nat_le m.handler_index number && nat_lt number (m.handler_index + m.handler_count)

-- the methods that own an entry
unfoldable pub owners : ℕ → List MethodDescriptor → List MethodDescriptor
owners number = filter (claims number)

-- the range of an entry lies in a method's code, and its own code begins there
abbrev pub is_within : List ℕ → HandlerInfo → MethodDescriptor → Bool
is_within info h m =
    nat_le (code_start info m) h.start && nat_le (h.start + h.length) (code_end info m)
    && nat_le (code_start info m) h.entry && nat_lt h.entry (code_end info m)

-- exactly one method owns the entry, and the entry lies in its code
abbrev pub has_home : List ℕ → HandlerInfo → List MethodDescriptor → Bool
has_home info h [] = false
has_home info h (m ∷ []) = is_within info h m
has_home info h (m ∷ n ∷ ms) = false

unfoldable pub handler_fault : List ℕ → List MethodDescriptor → ℕ → HandlerInfo → Option PackFault
handler_fault info methods number h = if has_home info h (owners number methods) then None else Some (HandlerOutside number)

-- a method claims an entry after a table of so many: the least such number
unfoldable pub claim_fault : ℕ → MethodDescriptor → Option PackFault
claim_fault count m = if not (m.handler_count == 0) && nat_lt count (m.handler_index + m.handler_count)
    then Some (HandlerOutside (max m.handler_index count)) else None

abbrev pub numbered_fault : List ℕ → List MethodDescriptor → ℕ × HandlerInfo → Option PackFault
numbered_fault info methods p = handler_fault info methods p.0 p.1
