-- A Load file: the components of a package, one after another, in blocks.
use Rattle.std.specs.Prelude.{◌≡◌, ℕ, ◌+◌, ◌*◌, ◌<◌, ◌≤◌, List, [], ◌∷◌, ◌++◌, length, map}
use Rattle.std.specs.List.{AllByRecursion, concat, flat_map}
use Rattle.cap_components.specs.Parts.{Lent, bytes_of}
use Rattle.cap_load.specs.Order.{InOrder}

-- a block: u1 length, and that many bytes
abbrev pub block : List ℕ → List ℕ
block content = length content ∷ content

-- its length is a byte and not 0
abbrev pub IsBlock : List ℕ → Type 0
IsBlock content = (0 < length content) × (length content < 256)

-- blocks of these contents, one after another
abbrev pub in_blocks : List (List ℕ) → List ℕ
in_blocks contents = flat_map block contents

-- blocks of these contents, and the byte 0 that ends them
abbrev pub stream_of : List (List ℕ) → List ℕ
stream_of contents = in_blocks contents ++ 0 ∷ []

-- the file of a component (JCVM 2.2, section 6.1): u1 tag, u2 size of a high and a low byte, and so many bytes of info
pub record IsFile (lent : Lent) : Type 0 where
  pub high : ℕ
  pub low : ℕ
  pub info : List ℕ
  pub bytes : lent.bytes ≡ lent.part ∷ high ∷ low ∷ info
  pub fit : (lent.part < 256) × (high < 256) × (low < 256)
  pub size : length info ≡ 256 * high + low

abbrev pub tag_of : Lent → ℕ
tag_of lent = lent.part

-- the files of parts, one after another
abbrev pub files_of : List Lent → List ℕ
files_of parts = flat_map bytes_of parts

-- the bytes are the files of these parts, in the order of their tags, each as long as its size says
pub record AreFiles (bytes : List ℕ) (parts : List Lent) : Type 0 where
  pub whole : bytes ≡ files_of parts
  pub each : AllByRecursion IsFile parts
  pub order : InOrder (map tag_of parts)

-- the bytes are blocks and their ending, and the contents of the blocks, joined, are the files of these parts
pub record IsLoadFile (bytes : List ℕ) (parts : List Lent) : Type 0 where
  pub blocks : List (List ℕ)
  pub each : AllByRecursion IsBlock blocks
  pub whole : bytes ≡ stream_of blocks
  pub files : AreFiles (concat blocks) parts

-- the contents have no more bytes than the room
pub record IsLoadFileWithin (room : ℕ) (bytes : List ℕ) (parts : List Lent) : Type 0 where
  pub loads : IsLoadFile bytes parts
  pub few : length (files_of parts) ≤ room
