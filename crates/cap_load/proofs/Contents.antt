-- A byte of the contents that shows no fault.
use Rattle.std.proofs.Common.{◌≡◌, ℕ, ◌<◌, Bool, true, false, length, Option, Some, None, refl, arith}
use Rattle.std.proofs.lemmas.Bool.{leb-false}
use Rattle.std.specs.Prelude.{nat_le}
use Rattle.cap_load.specs.declared.fault.StreamFault.{StreamFault}
use Rattle.cap_load.specs.Reading.{shown}
use Rattle.cap_load.specs.Loaded.{Loaded}
use Rattle.cap_load.specs.declared.loader.Block.TheVariants.{Left}
use Rattle.cap_load.specs.Taking.{content_fault, fault_by, or_full}

none_full : (found : Option StreamFault) (loaded : Loaded) → or_full found loaded ≡ None → (length loaded.contents < loaded.room) × (found ≡ None)
none_full (Some fault) loaded e = absurd (cc)
none_full None loaded e = by (nat_le loaded.room (length loaded.contents)) refl
  where
    by : (b : Bool) → nat_le loaded.room (length loaded.contents) ≡ b → (length loaded.contents < loaded.room)
        × (let none : Option StreamFault = None in none ≡ None)
    by true h = absurd (cc (e, h))
    by false h = (leb-false loaded.room (length loaded.contents) h, refl)

pub fits : (loaded : Loaded) (byte : ℕ) → content_fault loaded byte ≡ None → (length loaded.contents < loaded.room)
    × (shown loaded.reading byte ≡ None)
unfolding content_fault
fits loaded byte e = none_full (shown loaded.reading byte) loaded e

-- the same of a byte in a block
pub fits_left : (loaded : Loaded) (left byte : ℕ) → loaded.block ≡ Left left → (left ≡ 0 → ⊥) → fault_by loaded.block loaded byte ≡ None
    → (length loaded.contents < loaded.room) × (shown loaded.reading byte ≡ None)
fits_left loaded left byte is some e = let none : content_fault loaded byte ≡ None = grind arith in fits loaded byte none
