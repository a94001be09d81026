-- Which tags are named, as flags by tag.
use Rattle.std.specs.Prelude.{ℕ, Bool, false, List, slice_index_or, [], ◌∷◌}

abbrev pub named_in : List Bool → ℕ → Bool
named_in flags tag = slice_index_or flags tag false

-- the AID of a target index, a custom component with tag 128 (section 4.2)
abbrev pub index_aid : List ℕ
index_aid = 0xF0 ∷ 0x6C ∷ 0x65 ∷ 0x72 ∷ 0x6F ∷ 0x79 ∷ []
