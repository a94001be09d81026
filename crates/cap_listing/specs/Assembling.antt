-- What assembling a text answers.
use Rattle.std.specs.Prelude.{◌≡◌, ℕ, List, Result, Ok, Err}
use Rattle.cap_listing.specs.declared.method.ListedMethod.{ListedMethod}
use Rattle.cap_listing.specs.declared.fault.AsmFault.{AsmFault}
use Rattle.cap_listing.specs.declared.fault.AsmFault.TheVariants.{NotListing, OtherMethod, Registers}
use Rattle.cap_listing.specs.declared.fault.AsmFault.TheVariants.{HandlerRange, CodeLength, TooManyHandlers}
use Rattle.cap_listing.specs.declared.fault.AsmEnd.{AsmEnd}
use Rattle.cap_listing.specs.declared.fault.AsmEnd.TheVariants.{Fault, Memory}
use Rattle.cap_listing.specs.Text.{Lists}
use Rattle.cap_listing.specs.Fault.{IsNotListing}

-- the fault tells the first line with which the text begins no listing
abbrev pub TellsLine : List ℕ → AsmFault → Type 0
TellsLine text (NotListing line) = IsNotListing text line
TellsLine text (OtherMethod n) = ⊥
TellsLine text (Registers n count) = ⊥
TellsLine text (HandlerRange n number) = ⊥
TellsLine text (CodeLength n size) = ⊥
TellsLine text (TooManyHandlers count) = ⊥

abbrev pub TellsNotListing : List ℕ → AsmEnd → Type 0
TellsNotListing text (Fault fault) = TellsLine text fault
TellsNotListing text Memory = Unit {0}

-- what a text is answered: the methods whose listing it is, or where it goes wrong
abbrev pub Assembles : List ℕ → Result (List ListedMethod) AsmEnd → Type 0
Assembles text (Ok ms) = Lists ms text
Assembles text (Err end) = TellsNotListing text end

-- the answer is these methods, or there is no memory
abbrev pub AnswersMethods : List ListedMethod → Result (List ListedMethod) AsmEnd → Type 0
AnswersMethods ms (Ok ns) = ns ≡ ms
AnswersMethods ms (Err (Fault fault)) = ⊥
AnswersMethods ms (Err Memory) = Unit {0}

-- the answer is that the text is no listing from this line on, or there is no memory
abbrev pub AnswersLine : ℕ → Result (List ListedMethod) AsmEnd → Type 0
AnswersLine line (Ok ms) = ⊥
AnswersLine line (Err (Fault fault)) = fault ≡ NotListing line
AnswersLine line (Err Memory) = Unit {0}
