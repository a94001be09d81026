-- Which bytes are refused: by the first byte that shows a fault, or because they end too early.
use Rattle.std.specs.Prelude.{◌≡◌, ℕ, ◌<◌, ◌≤◌, false, List, [], ◌∷◌, ◌++◌, length, IsNone}
use Rattle.std.specs.List.{AllByRecursion, concat}
use Rattle.cap_components.specs.Parts.{Lent}
use Rattle.cap_load.specs.declared.fault.StreamFault.{StreamFault}
use Rattle.cap_load.specs.declared.fault.StreamFault.TheVariants.{NoTag, Order, Full, AfterEnd, Unfinished}
use Rattle.cap_load.specs.Order.{place, comes_before}
use Rattle.cap_load.specs.LoadFile.{IsBlock, IsFile, in_blocks, stream_of, files_of}

-- the order of faults that one byte shows
abbrev pub number : StreamFault → ℕ
number (NoTag tag) = 100
number (Order first second) = 101
number (Full room) = 102
number AfterEnd = 103
number Unfinished = 104

-- after these bytes the next one is one of the contents, and the contents before it are these: whole blocks, and a front of the next one
pub record GoesOn (bytes contents : List ℕ) : Type 0 where
  pub blocks : List (List ℕ)
  pub size : ℕ
  pub got : List ℕ
  pub each : AllByRecursion IsBlock blocks
  pub whole : bytes ≡ in_blocks blocks ++ size ∷ got
  pub more : length got < size
  pub joined : contents ≡ concat blocks ++ got

-- after these bytes the next one is the first of a component, and the components before it are these
pub record Begins (bytes : List ℕ) (parts : List Lent) : Type 0 where
  pub goes_on : GoesOn bytes (files_of parts)
  pub each : AllByRecursion IsFile parts

-- a component begins with this tag right after one of the other tag
pub record Follows (bytes : List ℕ) (first : ℕ) : Type 0 where
  pub parts : List Lent
  pub last : Lent
  pub begins : Begins bytes (parts ++ last ∷ [])
  pub is_last : first ≡ last.part

-- the bytes have an ending
pub record HasEnded (bytes : List ℕ) : Type 0 where
  pub blocks : List (List ℕ)
  pub more : List ℕ
  pub each : AllByRecursion IsBlock blocks
  pub whole : bytes ≡ stream_of blocks ++ more

-- the byte after these bytes shows the fault
abbrev pub Shows : ℕ → List ℕ → ℕ → StreamFault → Type 0
Shows room bytes byte (NoTag tag) = (tag ≡ byte) × IsNone (place tag) × ((parts : List Lent) × Begins bytes parts)
Shows room bytes byte (Order first second) = (second ≡ byte) × (comes_before first second ≡ false) × Follows bytes first
Shows room bytes byte (Full n) = (n ≡ room) × ((contents : List ℕ) × GoesOn bytes contents × (room ≤ length contents))
Shows room bytes byte AfterEnd = HasEnded bytes
Shows room bytes byte Unfinished = ⊥

-- no byte shows a fault
abbrev pub Faultless : ℕ → List ℕ → Type 0
Faultless room bytes =
    (before after : List ℕ) (byte : ℕ) (fault : StreamFault) → bytes ≡ before ++ byte ∷ after → Shows room before byte fault
    → ⊥

-- the first byte that shows a fault shows this one, and none of a lesser number
pub record IsFirst (room : ℕ) (bytes : List ℕ) (fault : StreamFault) : Type 0 where
  pub before : List ℕ
  pub byte : ℕ
  pub after : List ℕ
  pub whole : bytes ≡ before ++ byte ∷ after
  pub shown : Shows room before byte fault
  pub first : Faultless room before
  pub least : (other : StreamFault) → Shows room before byte other → number fault ≤ number other

-- the bytes are no blocks with an ending, or their contents are no whole components
abbrev pub IsUnfinished : List ℕ → Type 0
IsUnfinished bytes = (blocks : List (List ℕ)) (parts : List Lent) →
    AllByRecursion IsBlock blocks → AllByRecursion IsFile parts → bytes ≡ stream_of blocks → concat blocks ≡ files_of parts
    → ⊥

-- the bytes are refused for this fault
abbrev pub IsRefused : ℕ → List ℕ → StreamFault → Type 0
IsRefused room bytes (NoTag tag) = IsFirst room bytes (NoTag tag)
IsRefused room bytes (Order first second) = IsFirst room bytes (Order first second)
IsRefused room bytes (Full n) = IsFirst room bytes (Full n)
IsRefused room bytes AfterEnd = IsFirst room bytes AfterEnd
IsRefused room bytes Unfinished = Faultless room bytes × IsUnfinished bytes
