-- What `lay` asks of symbols, in words that a proof opens only where it is told to.
use Rattle.std.specs.Prelude.{ℕ, List}
use Rattle.jc_decode.specs.declared.symbols.Item.{Item}
use Rattle.jc_decode.specs.declared.symbols.Range.{Range}
use Rattle.jc_decode.specs.Symbols.{IsItem, IsOnce, IsRange}

-- the label stands at exactly one place
unfoldable pub Stands : List Item → ℕ → Type 0
Stands all l = IsOnce all l

-- an item of the code
unfoldable pub Suits : List ℕ → List Item → Item → Type 0
Suits source all item = IsItem source all item

-- a range of it
unfoldable pub Covers : List Item → Range → Type 0
Covers all range = IsRange all range
