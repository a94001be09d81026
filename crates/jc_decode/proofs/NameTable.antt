-- The code's table of names is the definition's, and each name is that of one opcode.
use Rattle.std.proofs.Common.{◌≤◌, ◌*◌, take, drop, nat_lt, nat_le, replicate, IsAscii, ◌≡◌, ◌∙◌, ℕ, zero, suc, ◌+◌, ◌<◌}
use Rattle.std.proofs.Common.{◌==◌, Bool, true, false, if◌then◌else◌, List, [], ◌∷◌, get_or, refl, sym, ap, arith, length}
use Rattle.std.specs.Prelude.{map, ◌&&◌}
use Rattle.std.proofs.lemmas.Bool.{ltb-true, leb-true, false≢true}
use Rattle.std.proofs.lemmas.Str.Ascii.{IsAscii-cons, IsAscii-nil}
use Rattle.std.proofs.lemmas.List.{get_or_past, get_or-replicate}
use Rattle.std.specs.List.{list_all, range_with_len}
use Rattle.std.proofs.lemmas.List.FromFn.{get_or-map-range_with_len}
use Rattle.jc_decode.specs.declared.names.TheConstants.{NAMES, WIDTHS}
use Rattle.jc_decode.specs.Names.{names, name, width, NamesAreApart}

pub length-names : length names ≡ 185
unfolding names
length-names = refl

widths : WIDTHS ≡ map width (range_with_len 0 185)
unfolding names
widths = refl

pub width-at : (op : ℕ) (d : ℕ) → op < 185 → get_or WIDTHS op d ≡ width op
width-at op d h = ap (λ (t : List ℕ). get_or t op d) widths ∙ get_or-map-range_with_len width 0 185 op op d h (omega arith)

abbrev piece : ℕ → List ℕ
piece op = take (width op) (drop (16 * op) NAMES.now)

pieces : map piece (range_with_len 0 185) ≡ names
unfolding names
pieces = refl

-- what stands in the columns of an opcode
pub piece-name : (op : ℕ) → op < 185 → piece op ≡ name op
piece-name op h = grind (arith, get_or-map-range_with_len piece 0 185 op op [] h (omega arith), pieces, get_or)

ascii_from : (bs : List ℕ) → list_all (λ b. nat_lt b 128) bs ≡ true → IsAscii bs
ascii_from [] e = IsAscii-nil
ascii_from (b ∷ bs) e = let parts = split (nat_lt b 128) _ e in IsAscii-cons b bs (ltb-true b 128 parts.0) (ascii_from bs parts.1)
  where
    split : (a b : Bool) → (a && b) ≡ true → (a ≡ true) × (b ≡ true)
    split true b e = (refl, e)
    split false b e = absurd (false≢true e)

pub IsAscii-table : IsAscii NAMES.now
IsAscii-table = ascii_from NAMES.now refl

narrow_all : map (λ op. nat_le (width op) 16) (range_with_len 0 185) ≡ replicate 185 true
unfolding names
narrow_all = refl

pub width-narrow : (op : ℕ) → op < 185 → width op ≤ 16
width-narrow op h =
    leb-true (width op) 16
    (sym (get_or-map-range_with_len (λ k. nat_le (width k) 16) 0 185 op op true h (omega arith))
    ∙ ap (λ (t : List Bool). get_or t op true) narrow_all ∙ get_or-replicate 185 op true true h)

pub name-past : (op : ℕ) → 185 ≤ op → [] ≡ name op
name-past op h = sym (get_or_past names op [] (omega (arith, length-names)))

is_same : List ℕ → List ℕ → Bool
is_same [] [] = true
is_same [] (y ∷ ys) = false
is_same (x ∷ xs) [] = false
is_same (x ∷ xs) (y ∷ ys) = if x == y then is_same xs ys else false

-- the number of the first of these that a word is
place_in : List (List ℕ) → ℕ → List ℕ → ℕ
place_in [] n w = n
place_in (v ∷ vs) n w = if is_same v w then n else place_in vs (n + 1) w

all-found : map (λ op. place_in names 0 (name op)) (range_with_len 0 185) ≡ range_with_len 0 185
unfolding names is_same place_in
all-found = refl

place-of-name : (op : ℕ) → op < 185 → place_in names 0 (name op) ≡ op
place-of-name op h =
    sym (get_or-map-range_with_len (λ k. place_in names 0 (name k)) 0 185 op op 0 h (omega arith))
    ∙ ap (λ (t : List ℕ). get_or t op 0) all-found
    ∙ at-range 185 0 op h ∙ omega arith
  where
    at-range : (k a n : ℕ) → n < k → get_or (range_with_len a k) n 0 ≡ a + n
    at-range zero a n h = absurd (omega arith)
    at-range (suc k) a zero h = omega arith
    at-range (suc k) a (suc n) h = at-range k (a + 1) n (omega arith) ∙ omega arith

pub names-apart : NamesAreApart
names-apart p q h k same = sym (place-of-name p h) ∙ ap (place_in names 0) same ∙ place-of-name q k
