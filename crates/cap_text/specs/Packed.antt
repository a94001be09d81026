-- The lines for a package that is packed into a Load file, and for a Load file that would be too long.
use Rattle.std.specs.Prelude.{ℕ, List, [], ◌∷◌, codes, decimal}
use Rattle.std.specs.List.{concat}

-- the Load file has so many blocks, and so many bytes with their lengths and the ending
abbrev pub packed_line : ℕ → ℕ → List ℕ
packed_line blocks bytes = concat (codes "packed " ∷ decimal blocks ∷ codes " blocks " ∷ decimal bytes ∷ codes " bytes\n" ∷ [])

-- it would have so many bytes, more than a part may have
abbrev pub load_limit_line : ℕ → List ℕ
load_limit_line size = concat (codes "limit LoadLong " ∷ decimal size ∷ codes "\n" ∷ [])
