-- What the verifier on the card answers (Leroy 2002, section 3).
use Rattle.std.specs.Prelude.{◌≡◌, ℕ, ◌<◌, length, Some, slice_get}
use Rattle.jc_base.specs.declared.ty.Ty.TheVariants.{Bottom}
use Rattle.jc_base.specs.declared.record.MethodRec.{MethodRec}
use Rattle.jc_base.specs.World.{Linked}
use Rattle.jc_control.specs.Method.{Method, method_with}
use Rattle.jc_control.specs.Flaw.{IsFirstFlaw}
use Rattle.jc_control.specs.declared.control.Flaw.{Flaw}
use Rattle.jc_rules.specs.Demand.{Frame}
use Rattle.jc_rules.specs.Flow.{HasFlowTyping}
use Rattle.card_typing.specs.declared.fault.CardFault.{CardFault}
use Rattle.card_typing.specs.Typing.{HasCardTyping}
use Rattle.card_typing.specs.Refusal.{fault_of, IsRefused}

-- the method of this number, where it has code, has a card typing, and a dataflow typing in which unset registers hold no value
pub record IsAccepted (w : Linked) (number : ℕ) (r : MethodRec) : Type 0 where
  pub card : HasCardTyping w (method_with w number r)
  pub flow : HasFlowTyping w (method_with w number r) Bottom

-- the method of this number, where there is one with code, is accepted
abbrev pub IsAcceptedAt : Linked → ℕ → Type 0
IsAcceptedAt w number = (r : MethodRec) → slice_get w.methods number ≡ Some r → 0 < r.code_len → IsAccepted w number r

-- each method with code, of those before a number, is accepted
abbrev pub AreAcceptedBefore : Linked → ℕ → Type 0
AreAcceptedBefore w n = (number : ℕ) → number < n → IsAcceptedAt w number

-- each method with code of the world is accepted
abbrev pub AreAccepted : Linked → Type 0
AreAccepted w = AreAcceptedBefore w (length w.methods)

-- the method has no card typing, and is refused with the frame that is kept
pub record IsRefusedMethod (w : Linked) (number : ℕ) (r : MethodRec) (fault : CardFault) : Type 0 where
  pub none : ¬ (HasCardTyping w (method_with w number r))
  pub kept : Frame
  pub refused : IsRefused w (method_with w number r) fault kept

-- the method of this number has code, and is refused
pub record IsRefusedAt (w : Linked) (number : ℕ) (fault : CardFault) : Type 0 where
  pub rec : MethodRec
  pub is : slice_get w.methods number ≡ Some rec
  pub has_code : 0 < rec.code_len
  pub refused : IsRefusedMethod w number rec fault

-- the first method with code, by number, that is refused
pub record IsFirstRefused (w : Linked) (number : ℕ) (fault : CardFault) : Type 0 where
  pub before : AreAcceptedBefore w number
  pub here : IsRefusedAt w number fault

-- the fault tells the first flaw of the method
abbrev pub TellsFlaw : Method → CardFault → Type 0
TellsFlaw m fault = (flaw : Flaw) × IsFirstFlaw m flaw × (fault ≡ fault_of flaw)
