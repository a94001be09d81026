-- Laws of the shortest code.
use Rattle.std.specs.Prelude.{◌≡◌, ◌≤◌, ℕ, List, All}
use Rattle.jc_decode.specs.declared.symbols.Item.{Item}
use Rattle.jc_decode.specs.declared.symbols.Laid.{Laid}
use Rattle.jc_decode.specs.declared.symbols.Symbols.{Symbols}
use Rattle.jc_decode.specs.CodeSize.{plain_code_size}
use Rattle.jc_decode.specs.Symbols.{IsItem, plain_size}
use Rattle.xf_layout.specs.declared.form.Form.{Form}
use Rattle.xf_layout.specs.Form.{AreForms, length_of_forms}
use Rattle.xf_layout.specs.Shortest.{IsShortest, StandsShortest}

-- items have one shortest choice of forms
abbrev pub ShortestIsOne : Type 0
ShortestIsOne = (items : List Item) (a b : List Form) → IsShortest items a → IsShortest items b → a ≡ b

-- laid in any forms the code of items is no longer than their plain size
abbrev pub LaidIsNoLonger : Type 0
LaidIsNoLonger = (items : List Item) (forms : List Form) → AreForms items forms → length_of_forms forms ≤ plain_size items

-- code that is laid for symbols in its shortest bytes has their plain size
abbrev pub PlainSizesAgree : Type 0
PlainSizesAgree =
    (source : List ℕ) (symbols : Symbols) (laid : Laid)
    → All (IsItem source symbols.items) symbols.items
    → StandsShortest source symbols laid
    → plain_code_size laid.code ≡ plain_size symbols.items
