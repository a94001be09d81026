-- A target that the index lacks.
use Rattle.std.specs.Prelude.{◌≡◌, ℕ, ℤ, pos, negsuc, ◌<◌}
use Rattle.card_typing.specs.declared.fault.CardFault.{CardFault}
use Rattle.card_typing.specs.declared.fault.CardKind.TheVariants.{NotIndexed}
use Rattle.card_verify.specs.declared.scan.Lacking.{Lacking}

-- the number of a place
abbrev pub IsPlaceNumber : ℤ → Type 0
IsPlaceNumber (pos q) = q < 65536
IsPlaceNumber (negsuc n) = ⊥

-- the refusal that names it
abbrev pub IsNotIndexed : Lacking → CardFault → Type 0
IsNotIndexed lacks fault = (q : ℕ) → lacks.target ≡ pos q → fault ≡ record { place = lacks.place; depth = 0; kind = NotIndexed q }
