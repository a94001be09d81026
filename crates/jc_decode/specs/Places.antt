-- The places at which the instructions of a list begin, and those to which they lead (JCVM 2.2, sections 6.9.1 and 7.5).
use Rattle.std.specs.Prelude.{◌≡◌, ◌+◌, ℕ, ℤ, pos, negsuc, List, All, Contains}
use Rattle.jc_decode.specs.declared.insn.Placed.{Placed}
use Rattle.jc_decode.specs.Listing.{targets}

-- the place after an instruction
abbrev pub place_after : Placed → ℕ
place_after i = i.place + i.insn.len

-- an instruction of the list begins at this place
abbrev pub BeginsIn : List Placed → ℕ → Type 0
BeginsIn is place = (i : Placed) × Contains is i × (i.place ≡ place)

-- one begins where a target lies, which may be before the code
abbrev pub IsTargetPlaceIn : List Placed → ℤ → Type 0
IsTargetPlaceIn is (pos place) = BeginsIn is place
IsTargetPlaceIn is (negsuc n) = ⊥

-- each target of an instruction of the code is such a place
abbrev pub LeadsInto : List ℕ → List Placed → Placed → Type 0
LeadsInto code is i = All (IsTargetPlaceIn is) (targets code i)

-- each target of each of the instructions is such a place
abbrev pub AllLeadInto : List ℕ → List Placed → Type 0
AllLeadInto code is = (i : Placed) → Contains is i → LeadsInto code is i

-- a branch or switch leads to this place, reached or not: one of the instructions that stand in some code, by the
-- places to which each leads
pub record IsTargetAmong (is_there : Placed → Type 0) (leads_to : Placed → List ℤ) (q : ℕ) : Type 0 where
  pub from : Placed
  pub stands : is_there from
  pub leads : Contains (leads_to from) (pos q)

-- one of the instructions of the list, which stand in the code
abbrev pub IsTargetIn : List ℕ → List Placed → ℕ → Type 0
IsTargetIn code is q = IsTargetAmong (Contains is) (targets code) q
