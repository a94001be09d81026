-- The files of components, one after another.
use Rattle.std.specs.Prelude.{◌≡◌, ℕ, zero, suc, List, [], ◌∷◌, ◌++◌, ◌==◌, length, Option, Some, None}
use Rattle.std.specs.Prelude.{if◌then◌else◌}
use Rattle.std.specs.List.{concat}
use Rattle.cap_components.specs.Parts.{Lent, held}
use Rattle.cap_load.specs.Order.{components}
use Rattle.cap_load.specs.LoadFile.{block, stream_of}
use Rattle.cap_load.specs.Packing.{AreFull}

-- so many numbers from one on
unfoldable pub counted_from : ℕ → ℕ → List ℕ
counted_from first zero = []
counted_from first (suc n) = first ∷ counted_from (suc first) n

-- all tags that have a place, in order
unfoldable pub in_order : List ℕ
in_order = components ++ counted_from 128 128

abbrev pub bytes_in : Option (List ℕ) → List ℕ
bytes_in None = []
bytes_in (Some bytes) = bytes

-- the file of a part, where it is there
abbrev pub file_in : List Lent → ℕ → List ℕ
file_in parts tag = bytes_in (held parts tag)

-- what is left, as the last block, and the ending
abbrev pub ending : List ℕ → List ℕ
ending rest = if length rest == 0 then 0 ∷ [] else block rest ++ 0 ∷ []

-- the bytes are these contents in full blocks
pub record IsCut (contents bytes : List ℕ) : Type 0 where
  pub blocks : List (List ℕ)
  pub full : AreFull blocks
  pub joined : concat blocks ≡ contents
  pub whole : bytes ≡ stream_of blocks
