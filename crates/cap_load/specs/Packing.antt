-- The components of a package as a Load file.
use Rattle.std.specs.Prelude.{◌≡◌, ℕ, ◌<◌, List, [], ◌∷◌, length, None, IsSome, is_some, if◌then◌else◌}
use Rattle.std.specs.List.{concat}
use Rattle.cap_bytes.specs.Spelling.{Stands}
use Rattle.cap_frame.specs.Frame.{component}
use Rattle.cap_components.specs.Parts.{Lent, held}
use Rattle.cap_load.specs.declared.fault.BlocksEnd.{BlocksEnd}
use Rattle.cap_load.specs.declared.fault.BlocksEnd.TheVariants.{LoadLong, Memory}
use Rattle.cap_load.specs.Order.{place}
use Rattle.cap_load.specs.LoadFile.{IsBlock, stream_of, AreFiles}

-- a component's file is one, of its tag
abbrev pub IsFramed : Lent → Type 0
IsFramed lent = IsSome (place lent.part) → (info : List ℕ) × Stands (component lent.part) lent.bytes info

-- the components among the parts are these: for each tag that has a place what the parts hold, for any other number nothing
abbrev pub AreComponents : List Lent → List Lent → Type 0
AreComponents parts chosen = (tag : ℕ) → held chosen tag ≡ (if is_some (place tag) then held parts tag else None)

-- blocks of 255 bytes, and a last one of no more
abbrev pub AreFull : List (List ℕ) → Type 0
AreFull [] = Unit {0}
AreFull (content ∷ []) = IsBlock content
AreFull (content ∷ next ∷ contents) = (length content ≡ 255) × AreFull (next ∷ contents)

-- the bytes are the Load file of the components among the parts, in full blocks
pub record IsPacked (parts : List Lent) (bytes : List ℕ) : Type 0 where
  pub chosen : List Lent
  pub blocks : List (List ℕ)
  pub components : AreComponents parts chosen
  pub files : AreFiles (concat blocks) chosen
  pub full : AreFull blocks
  pub whole : bytes ≡ stream_of blocks

-- the Load file of the components among the parts has so many bytes, more than the 65,538 that a part can have
abbrev pub IsTooLong : List Lent → BlocksEnd → Type 0
IsTooLong parts (LoadLong count) = (bytes : List ℕ) × IsPacked parts bytes × (count ≡ length bytes) × (65538 < count)
IsTooLong parts Memory = Unit {0}
