-- What keeps a method from being well formed, and which of it comes first (JCVM 2.2, sections 6.9.1 and 7.5).
use Rattle.std.specs.Prelude.{◌≡◌, ◌≢◌, ◌⊎◌, ℕ, ◌<◌, ℤ, length, Some, slice_get, ⊤, Err}
use Rattle.jc_base.specs.declared.record.Handler.{Handler}
use Rattle.jc_decode.specs.declared.insn.Placed.{Placed}
use Rattle.jc_decode.specs.declared.insn.CodeEnd.{CodeEnd}
use Rattle.jc_decode.specs.Decoding.{decoded}
use Rattle.jc_decode.specs.Listing.{listing_end, targets}
use Rattle.jc_control.specs.Method.{Method}
use Rattle.jc_control.specs.WellFormed.{HasInstruction, IsTargetPlace, IsHandlerOf}
use Rattle.jc_control.specs.declared.control.Flaw.{Flaw}
use Rattle.jc_control.specs.declared.control.Flaw.TheVariants.{Code, BadTarget, BadHandler}

-- where a flaw is met: at a place of the code, with the number of a target there; or at the handler of a number
pub data Spot : Type 0 where
  in_code : ℕ → ℕ → Spot
  in_table : ℕ → Spot

-- the code comes before the table of handlers; in the code the lesser place comes first, at one place the lesser number
abbrev pub ComesBefore : Spot → Spot → Type 0
ComesBefore (in_code p n) (in_code q k) = (p < q) ⊎ ((p ≡ q) × (n < k))
ComesBefore (in_code p n) (in_table k) = ⊤
ComesBefore (in_table n) (in_code q k) = ⊥
ComesBefore (in_table n) (in_table k) = n < k

-- a target of an instruction is no place of an instruction; the code goes on where no instruction is decoded; a handler is not well formed
pub data IsFlaw (m : Method) : Spot → Flaw → Type 0 where
  flaw_target : (i : Placed) (n : ℕ) (t : ℤ) → HasInstruction m.code i → slice_get (targets m.code i) n ≡ Some t
      → ¬ IsTargetPlace m.code t
      → IsFlaw m (in_code i.place n) (BadTarget i.place t)
  flaw_end : (end : CodeEnd) → listing_end m.code ≢ length m.code → decoded m.code (listing_end m.code) ≡ Err end
      → IsFlaw m (in_code (listing_end m.code) 0) (Code (listing_end m.code) end)
  flaw_handler : (n : ℕ) (h : Handler) → slice_get m.rec.handlers n ≡ Some h → ¬ IsHandlerOf m.code h
      → IsFlaw m (in_table n) (BadHandler h.entry n)

-- the flaw before which none is met
pub record IsFirstFlaw (m : Method) (first : Flaw) : Type 0 where
  pub spot : Spot
  pub flaw : IsFlaw m spot first
  pub least : (other : Spot) (f : Flaw) → IsFlaw m other f → ¬ ComesBefore other spot
