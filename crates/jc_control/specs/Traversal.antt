-- What a traversal of the places that control reaches has found, and what is left of it.
use Rattle.std.specs.Prelude.{◌≡◌, ◌⊎◌, ℕ, ℤ, pos, negsuc, ◌+◌, ◌*◌, ◌≤◌, true, if◌then◌else◌, []}
use Rattle.std.specs.Prelude.{◌∷◌, ◌++◌, length, sum_by, slice_set, Contains, MatchBool, ⊤}
use Rattle.jc_base.specs.declared.record.Handler.{Handler}
use Rattle.jc_decode.specs.declared.insn.Placed.{Placed}
use Rattle.jc_decode.specs.Listing.{targets}
use Rattle.jc_control.specs.Method.{Method}
use Rattle.jc_control.specs.WellFormed.{HasInstruction}
use Rattle.jc_control.specs.Control.{IsSuccessor, Covers, IsReached, IsLeader}
use Rattle.jc_control.specs.declared.traversal.Traversal.{Traversal}
use Rattle.jc_control.specs.Flags.{flag, IsFlagged}
use Rattle.jc_control.specs.Listing.{Listed}
use Rattle.jc_control.specs.ControlFlow.{Marked}

-- reached, and what follows it is still to be looked at
abbrev pub IsPending : Traversal → ℕ → Type 0
IsPending s place = Contains s.pending.items place

-- ---- steps

-- nothing is reached that wasn't
pub record IsAsBefore (old new : Traversal) : Type 0 where
  pub reached : new.reached ≡ old.reached
  pub pending : new.pending.items ≡ old.pending.items

-- this place is reached for the first time
pub record IsFound (place : ℕ) (old new : Traversal) : Type 0 where
  pub reached : new.reached ≡ slice_set old.reached place true
  pub pending : new.pending.items ≡ old.pending.items ++ place ∷ []

abbrev pub ReachesPlace : ℕ → Traversal → Traversal → Type 0
ReachesPlace place old new = MatchBool (flag old.reached place) (IsAsBefore old new) (IsFound place old new)

-- this place is taken up
pub record TakesUp (place : ℕ) (old new : Traversal) : Type 0 where
  pub reached : new.reached ≡ old.reached
  pub leaders : new.leaders ≡ old.leaders
  pub pending : old.pending.items ≡ new.pending.items ++ place ∷ []

-- nothing is pending
pub record IsDone (old new : Traversal) : Type 0 where
  pub reached : new.reached ≡ old.reached
  pub leaders : new.leaders ≡ old.leaders
  pub before : old.pending.items ≡ []
  pub after : new.pending.items ≡ []

-- how much is left: a place that isn't reached is to be found and to be taken up, a pending one to be taken up
abbrev pub work : Traversal → ℕ
work s = 2 * sum_by (λ b. if b then 0 else 1) s.reached + length s.pending.items

-- nothing is forgotten, what is newly reached is pending, and no more is left than before
pub record Grows (old new : Traversal) : Type 0 where
  pub reached : (p : ℕ) → IsFlagged old.reached p → IsFlagged new.reached p
  pub leaders : (p : ℕ) → IsFlagged old.leaders p → IsFlagged new.leaders p
  pub fresh : (p : ℕ) → IsFlagged new.reached p → IsFlagged old.reached p ⊎ IsPending new p
  pub pending : (p : ℕ) → IsPending old p → IsPending new p
  pub less : work new ≤ work old

-- ---- what is found

-- what is found is so, and there is a flag for each place and for the end
pub record IsSoundTraversal (m : Method) (s : Traversal) : Type 0 where
  pub reached_size : length s.reached ≡ length m.code + 1
  pub leaders_size : length s.leaders ≡ length m.code + 1
  pub reached : (p : ℕ) → IsFlagged s.reached p → IsReached m p
  pub leaders : (p : ℕ) → IsFlagged s.leaders p → IsLeader m p
  pub pending : (p : ℕ) → IsPending s p → IsFlagged s.reached p

-- the places that are found, beside the listing by which they were
abbrev pub found : Traversal → Listed → Marked
found s listing = record { reached = s.reached; leaders = s.leaders; listing = listing }

-- a target, and the entry of a handler that covers a place, are found
abbrev pub IsLed : Traversal → ℕ → Type 0
IsLed s place = IsFlagged s.reached place × IsFlagged s.leaders place

abbrev pub IsLedTo : Traversal → ℤ → Type 0
IsLedTo s (pos place) = IsLed s place
IsLedTo s (negsuc n) = ⊤

abbrev pub IsCaught : Traversal → ℕ → Handler → Type 0
IsCaught s place h = Covers h place → IsLed s h.entry

-- all that follows a place is found
pub record IsClosedAt (m : Method) (s : Traversal) (place : ℕ) : Type 0 where
  pub follows : (i : Placed) (q : ℕ) → HasInstruction m.code i → i.place ≡ place → IsSuccessor m.code i q
      → IsFlagged s.reached q
  pub leads : (i : Placed) (q : ℕ) → HasInstruction m.code i → i.place ≡ place → Contains (targets m.code i) (pos q)
      → IsFlagged s.leaders q
  pub catches : (h : Handler) → Contains m.rec.handlers h → IsCaught s place h

-- each place that is reached is pending, or all that follows it is found
abbrev pub IsClosed : Method → Traversal → Type 0
IsClosed m s = (p : ℕ) → IsFlagged s.reached p → IsPending s p ⊎ IsClosedAt m s p
