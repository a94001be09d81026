-- How it is known at which places of a code instructions begin.
use Rattle.std.specs.Prelude.{ℕ, List, ⊤}
use Rattle.std.proofs.Props.{props}
use Rattle.jc_control.specs.Listing.{IsListingOf, AreDecoded}
use Rattle.jc_control.specs.declared.places.Places.{Places}
use Rattle.jc_control.specs.declared.places.Places.TheVariants.{Listed, Sought}

-- a listing is that of the code; a walk along it needs nothing
abbrev pub KnowPlaces : List ℕ → Places → Type 0
KnowPlaces code (Listed listing) = IsListingOf code listing.now
KnowPlaces code Sought = ⊤

-- the instructions of a listing are decoded from the code
abbrev pub ReadsAs : List ℕ → Places → Type 0
ReadsAs code (Listed listing) = AreDecoded code listing.now.insns
ReadsAs code Sought = ⊤

-- a proposition, which a struct may hold
pub ReadsAs-once : (code : List ℕ) (places : Places) → IsProp (ReadsAs code places)
ReadsAs-once code (Listed listing) = hlevel props
ReadsAs-once code Sought = hlevel props
