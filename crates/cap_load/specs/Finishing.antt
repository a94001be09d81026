-- What a loader answers at the end.
use Rattle.std.specs.Prelude.{◌≡◌, ℕ, List, Result, Ok, Err}
use Rattle.cap_components.specs.Parts.{Lent}
use Rattle.cap_load.specs.declared.fault.FinishEnd.{FinishEnd}
use Rattle.cap_load.specs.declared.fault.FinishEnd.TheVariants.{Fault, Memory}
use Rattle.cap_load.specs.LoadFile.{AreFiles, IsLoadFileWithin}
use Rattle.cap_load.specs.Fault.{IsRefused}
use Rattle.cap_load.specs.Loaded.{Loaded, StandsFor}

-- parts of which the bytes are a Load file, or the fault for which they are refused
abbrev pub Finishes : Loaded → Result (List Lent) FinishEnd → Type 0
Finishes loaded (Ok parts) = (bytes : List ℕ) → StandsFor loaded bytes → IsLoadFileWithin loaded.room bytes parts
Finishes loaded (Err (Fault fault)) = (bytes : List ℕ) → StandsFor loaded bytes → IsRefused loaded.room bytes fault
Finishes loaded (Err Memory) = Unit {0}

-- these parts, unless memory ran out
abbrev pub Gives : List Lent → Result (List Lent) FinishEnd → Type 0
Gives parts (Ok others) = parts ≡ others
Gives parts (Err (Fault fault)) = ⊥
Gives parts (Err Memory) = Unit {0}

-- the contents are whole components in order
abbrev pub AreWhole : List ℕ → Type 0
AreWhole contents = (parts : List Lent) × AreFiles contents parts
