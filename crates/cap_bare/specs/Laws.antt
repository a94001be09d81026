-- Laws of bare methods.
use Rattle.std.specs.Prelude.{ℕ, ℤ, ◌≡◌, ◌↔◌, List, Contains, IsTrue}
use Rattle.jc_decode.specs.declared.insn.Placed.{Placed}
use Rattle.jc_decode.specs.Listing.{targets}
use Rattle.cap_bare.specs.declared.format.Bare.{Bare}
use Rattle.cap_bare.specs.declared.fault.BareFault.{BareFault}
use Rattle.cap_bare.specs.Code.{HasInstruction, IsTargetPlace}
use Rattle.cap_bare.specs.Met.{IsRefused}
use Rattle.cap_bare.specs.Walk.{is_place}

-- a method has one refusal at most
abbrev pub RefusalIsOne : Type 0
RefusalIsOne = (code : List ℕ) (bare : Bare) (f g : BareFault) → IsRefused code bare f → IsRefused code bare g → f ≡ g

-- the places at which the machine goes on are those at which an instruction begins
abbrev pub PlacesAreTold : Type 0
PlacesAreTold = (code : List ℕ) (place : ℤ) → IsTrue (is_place code place) ↔ IsTargetPlace code place

-- wherever an instruction of the code leads, the machine goes on
abbrev pub LeadsOn : List ℕ → Type 0
LeadsOn code = (i : Placed) (target : ℤ) → HasInstruction code i → Contains (targets code i) target → IsTrue (is_place code target)
