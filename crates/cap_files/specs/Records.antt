-- Parts in the order in which a pile has them.
use Rattle.std.specs.Prelude.{ℕ, ◌+◌, List, Bool, ◌&&◌, Option, Some, None, length, remove, sum_by, nat_lt, nat_le, refl}
use Rattle.std.specs.Ordering.{nat_cmp, eq_by_cmp}
use Rattle.std.specs.Cmp.Lexicographic.{slice_cmp}
use Rattle.cap_files.specs.Room.{size_of}
use Rattle.std.specs.Coded.{Coded, code_by, coded×, coded_ℕ, coded_list}

-- the parts of a pile, each its key and its bytes, and the pile's room
pub record Piled : Type 0 where
  pub records : List (List ℕ × List ℕ)
  pub most_parts : ℕ
  pub most_bytes : ℕ

-- a pile as a value is stored as the tuple of its fields
abbrev pub piled_code : Coded Piled
piled_code =
    code_by (List (List ℕ × List ℕ) × (ℕ × ℕ))
    (coded× (coded_list (coded× (coded_list coded_ℕ) (coded_list coded_ℕ))) (coded× coded_ℕ coded_ℕ))
    (λ p. (p.records, (p.most_parts, p.most_bytes))) (λ p. record { records = p.0; most_parts = p.1.0; most_bytes = p.1.1 }) (λ _. refl)

-- whether a record's key is the one
abbrev pub has_key : List ℕ → List ℕ × List ℕ → Bool
has_key key held = eq_by_cmp (slice_cmp nat_cmp) key held.0

-- the records without the one at a place, if one is named
abbrev pub without : Option ℕ → List (List ℕ × List ℕ) → List (List ℕ × List ℕ)
without None held = held
without (Some n) held = remove held n

-- whether the pile's room suffices for one more record of that size, without the one at a place, if one is named
abbrev pub has_room_beside : Piled → Option ℕ → ℕ → Bool
has_room_beside pile out size =
    let left = without out pile.records in nat_lt (length left) pile.most_parts && nat_le (sum_by size_of left + size) pile.most_bytes
