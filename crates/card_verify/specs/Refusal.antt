-- Why the verifier on the card refuses a method over a target index (Leroy 2002, section 3).
use Rattle.std.specs.Prelude.{◌≡◌, ℕ, ℤ, pos, negsuc, ◌+◌, ◌<◌, ◌≤◌, List, Some, All, slice_get, Contains, ⊤}
use Rattle.jc_base.specs.Index.{IsAscending}
use Rattle.jc_base.specs.World.{Linked}
use Rattle.jc_decode.specs.declared.insn.Placed.{Placed}
use Rattle.jc_decode.specs.Listing.{listing, targets}
use Rattle.jc_control.specs.Method.{Method}
use Rattle.jc_control.specs.WellFormed.{IsPlace, IsWellFormed}
use Rattle.jc_control.specs.FirstFailing.{IsFirstFailing}
use Rattle.jc_control.specs.Flaw.{IsFirstFlaw}
use Rattle.jc_control.specs.declared.control.Flaw.{Flaw}
use Rattle.jc_rules.specs.Demand.{Frame}
use Rattle.card_typing.specs.declared.fault.CardFault.{CardFault}
use Rattle.card_typing.specs.declared.fault.CardKind.{CardKind}
use Rattle.card_typing.specs.declared.fault.CardKind.TheVariants.{Code, BadTarget, BadHandler, BadIndex, NotIndexed}
use Rattle.card_typing.specs.Refusal.{IsRefusedState, fault_of}
use Rattle.card_verify.specs.IndexTyping.{IsIndex}

-- ---- what is wrong with an index

-- the entry of this number is no place of an instruction, or is not above the one before it
pub data IsBadEntry (code index : List ℕ) : ℕ → Type 0 where
  bad_place : (k p : ℕ) → slice_get index k ≡ Some p → ¬ (IsPlace code p) → IsBadEntry code index k
  bad_order : (k p q : ℕ) → slice_get index k ≡ Some p → slice_get index (k + 1) ≡ Some q → q ≤ p
      → IsBadEntry code index (k + 1)

pub record IsFirstBadEntry (code index : List ℕ) (k : ℕ) : Type 0 where
  pub bad : IsBadEntry code index k
  pub least : (j : ℕ) → j < k → ¬ (IsBadEntry code index j)

-- the index lists a target; none before the code is listed
abbrev pub IsListedTarget : List ℕ → ℤ → Type 0
IsListedTarget index (pos q) = Contains index q
IsListedTarget index (negsuc n) = ⊥

-- each target of the instruction is listed
abbrev pub LeadsToListed : List ℕ → List ℕ → Placed → Type 0
LeadsToListed code index i = All (IsListedTarget index) (targets code i)

-- the first instruction with a target that is not listed, by its place, and the first such target
pub record IsFirstLacking (code index : List ℕ) (place : ℕ) (target : ℤ) : Type 0 where
  pub number : ℕ
  pub from : Placed
  pub at : from.place ≡ place
  pub instruction : IsFirstFailing (LeadsToListed code index) (listing code) number from
  pub target_number : ℕ
  pub lacks : IsFirstFailing (IsListedTarget index) (targets code from) target_number target

-- ---- refusals

-- the refusals that tell what is wrong with the form of the method or with the index, and none of a state
abbrev pub IsFormKind : CardKind → Type 0
IsFormKind (Code end) = ⊤
IsFormKind (BadTarget target) = ⊤
IsFormKind (BadHandler number) = ⊤
IsFormKind (BadIndex entry) = ⊤
IsFormKind (NotIndexed target) = ⊤
IsFormKind _ = ⊥

-- the reasons to refuse a method over an index, in the order in which they are looked for: its first flaw; the first bad
-- entry of the index; the first target that it lacks; or what is wrong with a state that is met over it
pub data IsRefusedOver (w : Linked) (m : Method) (index : List ℕ) : CardFault → Frame → Type 0 where
  over_flaw : (flaw : Flaw) (kept : Frame) → IsFirstFlaw m flaw → IsRefusedOver w m index (fault_of flaw) kept
  over_entry :
      (k : ℕ) (kept : Frame)
      → IsWellFormed m
      → IsFirstBadEntry m.code index k
      → IsRefusedOver w m index (record { place = 0; depth = 0; kind = BadIndex k }) kept
  over_target :
      (place q : ℕ) (kept : Frame)
      → IsWellFormed m
      → IsAscending index
      → All (IsPlace m.code) index
      → IsFirstLacking m.code index place (pos q)
      → IsRefusedOver w m index (record { place = place; depth = 0; kind = NotIndexed q }) kept
  over_state :
      (fault : CardFault) (kept : Frame)
      → IsWellFormed m
      → IsIndex m index
      → IsRefusedState w m (Contains index) fault kept
      → IsRefusedOver w m index fault kept
