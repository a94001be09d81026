-- What holds of every list of bytes.
use Rattle.std.specs.Prelude.{◌≡◌, ℕ, ◌≤◌, List, length}
use Rattle.cap_components.specs.Parts.{Lent}
use Rattle.cap_load.specs.declared.fault.StreamFault.{StreamFault}
use Rattle.cap_load.specs.declared.fault.BlocksEnd.TheVariants.{LoadLong}
use Rattle.cap_load.specs.LoadFile.{IsLoadFile, IsLoadFileWithin}
use Rattle.cap_load.specs.Fault.{IsRefused}
use Rattle.cap_load.specs.Packing.{IsPacked, IsTooLong}

-- bytes are a Load file of at most one list of parts
abbrev pub OneList : Type 0
OneList = (bytes : List ℕ) (parts others : List Lent) → IsLoadFile bytes parts → IsLoadFile bytes others → parts ≡ others

-- bytes are refused for at most one fault
abbrev pub OneFault : Type 0
OneFault =
    (room : ℕ) (bytes : List ℕ) (fault other : StreamFault) → IsRefused room bytes fault → IsRefused room bytes other
    → fault ≡ other

-- bytes that are a Load file within the room are refused for none
abbrev pub NotBoth : Type 0
NotBoth = (room : ℕ) (bytes : List ℕ) (parts : List Lent) (fault : StreamFault)
    → IsLoadFileWithin room bytes parts → IsRefused room bytes fault → ⊥

-- the components among parts are packed to at most one list of bytes
abbrev pub OnePacked : Type 0
OnePacked = (parts : List Lent) (bytes others : List ℕ) → IsPacked parts bytes → IsPacked parts others → bytes ≡ others

-- components that are packed to no more bytes than a part can have are not too long
abbrev pub ShortNotLong : Type 0
ShortNotLong = (parts : List Lent) (bytes : List ℕ) (count : ℕ)
    → IsPacked parts bytes → length bytes ≤ 65538 → IsTooLong parts (LoadLong count) → ⊥

-- bytes that are packed are a Load file of the components that were packed
abbrev pub PackedIsLoadFile : Type 0
PackedIsLoadFile = (parts : List Lent) (bytes : List ℕ) → (packed : IsPacked parts bytes) → IsLoadFile bytes packed.chosen
