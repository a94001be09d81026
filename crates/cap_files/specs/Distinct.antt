-- Records of a pile whose keys are distinct.
use Rattle.std.specs.Prelude.{◌≡◌, ℕ, List, [], ◌∷◌, None}
use Rattle.std.specs.Ordering.{nat_cmp}
use Rattle.std.specs.Cmp.Lexicographic.{slice_cmp}
use Rattle.std.specs.FinMap as map

-- no two records have one key
abbrev pub AreDistinct : List (List ℕ × List ℕ) → Type 0
AreDistinct [] = Unit {0}
AreDistinct (r ∷ rs) = (map.find (slice_cmp nat_cmp) r.0 rs ≡ None) × AreDistinct rs
