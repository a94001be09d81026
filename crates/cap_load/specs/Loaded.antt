-- What a loader has taken, and the bytes for which it stands.
use Rattle.std.specs.Prelude.{◌≡◌, ℕ, ◌+◌, ◌*◌, ◌<◌, List, [], ◌∷◌, ◌++◌, length, map, Option, Some, None}
use Rattle.std.specs.Prelude.{Result, Ok, Err}
use Rattle.std.specs.List.{AllByRecursion, concat}
use Rattle.cap_components.specs.Parts.{Lent}
use Rattle.cap_load.specs.declared.fault.StreamFault.{StreamFault}
use Rattle.cap_load.specs.declared.component.Next.{Next}
use Rattle.cap_load.specs.declared.component.Next.TheVariants.{Tag, High, Low, Info}
use Rattle.cap_load.specs.declared.component.Reading.{Reading}
use Rattle.cap_load.specs.declared.loader.Block.{Block}
use Rattle.cap_load.specs.declared.loader.Block.TheVariants.{Left, Ended}
use Rattle.cap_load.specs.Order.{InOrder}
use Rattle.cap_load.specs.LoadFile.{IsBlock, IsFile, in_blocks, tag_of, files_of}
use Rattle.cap_load.specs.Fault.{Faultless, IsFirst}

-- the room for contents, the contents so far, where the next byte stands among blocks and components, and the fault that was told
pub record Loaded : Type 0 where
  pub room : ℕ
  pub contents : List ℕ
  pub block : Block
  pub reading : Reading
  pub fault : Option StreamFault

-- what stands behind whole blocks: nothing, a front of a block, the ending
abbrev pub IsLeft : Block → List ℕ → List ℕ → Type 0
IsLeft (Left n) [] got = (n ≡ 0) × (got ≡ [])
IsLeft (Left n) (size ∷ bytes) got = (got ≡ bytes) × (0 < n) × (length bytes + n ≡ size) × (size < 256)
IsLeft Ended rest got = (rest ≡ 0 ∷ []) × (got ≡ [])

-- the bytes are whole blocks and what stands behind them, and these are their contents
pub record IsFront (block : Block) (bytes contents : List ℕ) : Type 0 where
  pub blocks : List (List ℕ)
  pub rest : List ℕ
  pub got : List ℕ
  pub each : AllByRecursion IsBlock blocks
  pub whole : bytes ≡ in_blocks blocks ++ rest
  pub joined : contents ≡ concat blocks ++ got
  pub left : IsLeft block rest got

abbrev pub StandsBy : Option StreamFault → Loaded → List ℕ → Type 0
StandsBy None loaded bytes = Faultless loaded.room bytes × IsFront loaded.block bytes loaded.contents
StandsBy (Some fault) loaded bytes = IsFirst loaded.room bytes fault

-- a loader stands for bytes that show no fault, or show the one that it told
abbrev pub StandsFor : Loaded → List ℕ → Type 0
StandsFor loaded bytes = StandsBy loaded.fault loaded bytes

-- the fault that a loader told, if any
abbrev pub told : Option StreamFault → Result (Unit {0}) StreamFault
told None = Ok (tt {0})
told (Some fault) = Err fault

-- the tag of a component that is not whole
abbrev pub begun : List ℕ → List ℕ
begun [] = []
begun (tag ∷ bytes) = tag ∷ []

-- what stands behind whole components, by what comes next
abbrev pub IsNext : Next → List ℕ → Type 0
IsNext Tag tail = tail ≡ []
IsNext High tail = (tag : ℕ) × (tail ≡ tag ∷ []) × (tag < 256)
IsNext (Low high) tail = (tag : ℕ) × (tail ≡ tag ∷ high ∷ []) × (tag < 256) × (high < 256)
IsNext (Info left) tail =
    (tag high low : ℕ) × (info : List ℕ) × (tail ≡ tag ∷ high ∷ low ∷ info) × (0 < left)
    × (length info + left ≡ 256 * high + low) × (tag < 256) × (high < 256) × (low < 256)

-- the last of a list of tags, where there is one
abbrev pub IsLast : Option ℕ → List ℕ → Type 0
IsLast None tags = tags ≡ []
IsLast (Some tag) tags = (front : List ℕ) × (tags ≡ front ++ tag ∷ [])

-- the contents are whole components in order, and what stands behind them
pub record IsRead (contents : List ℕ) (reading : Reading) : Type 0 where
  pub files : List Lent
  pub tail : List ℕ
  pub each : AllByRecursion IsFile files
  pub whole : contents ≡ files_of files ++ tail
  pub order : InOrder (map tag_of files ++ begun tail)
  pub next : IsNext reading.next tail
  pub last : IsLast reading.last (map tag_of files ++ begun tail)
