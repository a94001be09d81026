-- Well-formed methods: the places at which instructions begin, and that targets and handlers are such (JCVM 2.2, sections 6.9.1 and 7.5).
use Rattle.std.specs.Prelude.{◌≡◌, ℕ, ◌<◌, ◌⊎◌, ℤ, List, length, All, Contains}
use Rattle.jc_base.specs.declared.record.Handler.{Handler}
use Rattle.jc_decode.specs.declared.insn.Placed.{Placed}
use Rattle.jc_decode.specs.Listing.{listing, listing_end}
use Rattle.jc_decode.specs.Places.{BeginsIn, IsTargetPlaceIn, AllLeadInto}
use Rattle.jc_control.specs.Method.{Method}

-- one of the instructions of the code
abbrev pub HasInstruction : List ℕ → Placed → Type 0
HasInstruction code i = Contains (listing code) i

-- an instruction of the code begins at this place
abbrev pub IsPlace : List ℕ → ℕ → Type 0
IsPlace code place = BeginsIn (listing code) place

abbrev pub IsTargetPlace : List ℕ → ℤ → Type 0
IsTargetPlace code target = IsTargetPlaceIn (listing code) target

-- a place of the code, or its end
abbrev pub IsBoundary : List ℕ → ℕ → Type 0
IsBoundary code place = (place ≡ length code) ⊎ IsPlace code place

-- its range is not empty and lies between instructions, and its entry is one
pub record IsHandlerOf (code : List ℕ) (h : Handler) : Type 0 where
  pub start : IsPlace code h.start
  pub end : IsBoundary code h.end
  pub order : h.start < h.end
  pub entry : IsPlace code h.entry

-- the code decodes to its end, each target of each instruction is a place, and each handler is well formed
pub record IsWellFormed (m : Method) : Type 0 where
  pub ends : listing_end m.code ≡ length m.code
  pub targets : AllLeadInto m.code (listing m.code)
  pub handlers : All (IsHandlerOf m.code) m.rec.handlers
