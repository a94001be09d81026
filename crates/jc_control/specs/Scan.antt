-- What the scan of a method's code and of its handlers finds first.
use Rattle.std.specs.Prelude.{◌≡◌, ◌≢◌, ℕ, ℤ, List, length, Err}
use Rattle.jc_base.specs.declared.record.Handler.{Handler}
use Rattle.jc_decode.specs.declared.insn.Placed.{Placed}
use Rattle.jc_decode.specs.declared.insn.CodeEnd.{CodeEnd}
use Rattle.jc_decode.specs.Decoding.{decoded}
use Rattle.jc_decode.specs.Listing.{listing, listing_end, targets}
use Rattle.jc_decode.specs.Places.{LeadsInto}
use Rattle.jc_control.specs.WellFormed.{IsTargetPlace, IsHandlerOf}
use Rattle.jc_control.specs.declared.control.Flaw.{Flaw}
use Rattle.jc_control.specs.declared.control.Flaw.TheVariants.{Code, BadTarget, BadHandler}
use Rattle.jc_control.specs.FirstFailing.{IsFirstFailing}

-- each target of the instruction is the place of an instruction
abbrev pub LeadsToPlaces : List ℕ → Placed → Type 0
LeadsToPlaces code i = LeadsInto code (listing code) i

-- the first instruction with a target that is no place, and the first such target
pub record IsFirstStray (code : List ℕ) (f : Flaw) : Type 0 where
  pub number : ℕ
  pub from : Placed
  pub instruction : IsFirstFailing (LeadsToPlaces code) (listing code) number from
  pub target_number : ℕ
  pub target : ℤ
  pub target_is : IsFirstFailing (IsTargetPlace code) (targets code from) target_number target
  pub is : f ≡ BadTarget from.place target

-- the code goes on where no instruction is decoded
pub record IsEndFlaw (code : List ℕ) (f : Flaw) : Type 0 where
  pub goes_on : listing_end code ≢ length code
  pub end : CodeEnd
  pub why : decoded code (listing_end code) ≡ Err end
  pub is : f ≡ Code (listing_end code) end

-- the first handler that is not well formed
pub record IsFirstBadHandler (code : List ℕ) (handlers : List Handler) (f : Flaw) : Type 0 where
  pub number : ℕ
  pub handler : Handler
  pub handler_is : IsFirstFailing (IsHandlerOf code) handlers number handler
  pub is : f ≡ BadHandler handler.entry number
