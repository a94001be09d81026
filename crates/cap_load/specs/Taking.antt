-- A loader with one byte more.
use Rattle.std.specs.Prelude.{ℕ, ◌-◌, ◌==◌, [], ◌∷◌, ◌++◌, length, Option, Some, None, nat_le, if◌then◌else◌}
use Rattle.cap_load.specs.declared.fault.StreamFault.{StreamFault}
use Rattle.cap_load.specs.declared.fault.StreamFault.TheVariants.{Full, AfterEnd}
use Rattle.cap_load.specs.declared.loader.Block.{Block}
use Rattle.cap_load.specs.declared.loader.Block.TheVariants.{Left, Ended}
use Rattle.cap_load.specs.Reading.{shown, read_byte}
use Rattle.cap_load.specs.Loaded.{Loaded}

abbrev pub or_full : Option StreamFault → Loaded → Option StreamFault
or_full (Some fault) loaded = Some fault
or_full None loaded = if nat_le loaded.room (length loaded.contents) then Some (Full loaded.room) else None

-- the fault that a byte of the contents shows
unfoldable pub content_fault : Loaded → ℕ → Option StreamFault
content_fault loaded byte = or_full (shown loaded.reading byte) loaded

-- the fault that the next byte shows
abbrev pub fault_by : Block → Loaded → ℕ → Option StreamFault
fault_by Ended loaded byte = Some AfterEnd
fault_by (Left n) loaded byte = if n == 0 then None else content_fault loaded byte

-- a length, or the ending
abbrev pub opened : ℕ → Block
opened size = if size == 0 then Ended else Left size

-- a byte that shows no fault
abbrev pub moved_by : Block → Loaded → ℕ → Loaded
moved_by Ended loaded byte = loaded
moved_by (Left n) loaded byte = if n == 0
    then record loaded { block = opened byte }
    else record loaded { contents = loaded.contents ++ byte ∷ []; block = Left (n - 1); reading = read_byte loaded.reading byte }

abbrev pub taken_by : Option StreamFault → Loaded → ℕ → Loaded
taken_by None loaded byte = moved_by loaded.block loaded byte
taken_by (Some fault) loaded byte = record loaded { fault = Some fault }

abbrev pub taken_after : Option StreamFault → Loaded → ℕ → Loaded
taken_after None loaded byte = taken_by (fault_by loaded.block loaded byte) loaded byte
taken_after (Some fault) loaded byte = loaded

-- a loader with one byte more
unfoldable pub taken : Loaded → ℕ → Loaded
taken loaded byte = taken_after loaded.fault loaded byte
