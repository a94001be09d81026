-- Flags of targets. No public promise rests on it.
use Rattle.std.specs.Prelude.{◌+◌, ℕ, ℤ, pos, negsuc, Bool, true, false, List, [], ◌∷◌, length, slice_set, nat_lt, ◌&&◌}
use Rattle.std.specs.Prelude.{if◌then◌else◌}
use Rattle.jc_decode.specs.declared.insn.Placed.{Placed}
use Rattle.jc_decode.specs.Listing.{targets}

-- a target is flagged where it is one of these places
abbrev pub mark : (ℕ → Bool) → List Bool → ℤ → List Bool
mark place flags (pos q) = if place q && nat_lt q (length flags) then slice_set flags q true else flags
mark place flags (negsuc n) = flags

abbrev pub marked : (ℕ → Bool) → List Bool → List ℤ → List Bool
marked place flags [] = flags
marked place flags (t ∷ ts) = marked place (mark place flags t) ts

-- the targets of instructions
abbrev pub all_marked : List ℕ → (ℕ → Bool) → List Bool → List Placed → List Bool
all_marked code place flags [] = flags
all_marked code place flags (i ∷ is) = all_marked code place (marked place flags (targets code i)) is

-- the places that are flagged, where the first flag is that of a place
abbrev pub flagged_from : ℕ → List Bool → List ℕ
flagged_from k [] = []
flagged_from k (true ∷ fs) = k ∷ flagged_from (k + 1) fs
flagged_from k (false ∷ fs) = flagged_from (k + 1) fs
