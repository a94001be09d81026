-- The first word that ends the folders, sought word by word.
use Rattle.std.proofs.Common.{◌≡◌, ℕ, ◌+◌, true, false, List, [], ◌∷◌, length, drop, suc, zero, sym, ◌∙◌, ap, refl, arith}
use Rattle.std.specs.Prelude.{Bool, codes}
use Rattle.std.specs.List.{position_or_len, after_first}
use Rattle.std.specs.Str.{bytes_eq}

-- the word ends the folders
abbrev pub is_end : List ℕ → Bool
is_end word = bytes_eq word (codes "--")

next_dropped : (n : ℕ) (ws : List (List ℕ)) (word : List ℕ) (tail : List (List ℕ)) → drop n ws ≡ word ∷ tail → drop (suc n) ws ≡ tail
next_dropped zero [] word tail is = absurd (cc)
next_dropped (suc n) [] word tail is = absurd (cc)
next_dropped zero (w ∷ ws) word tail is = cc
next_dropped (suc n) (w ∷ ws) word tail is = next_dropped n ws word tail is

dropped_one : (n : ℕ) (ws : List (List ℕ)) (word : List ℕ) (tail : List (List ℕ)) → drop n ws ≡ word ∷ tail → drop (n + 1) ws ≡ tail
dropped_one n ws word tail is = grind (arith, suc, drop, next_dropped)

at_end : (word : List ℕ) (tail : List (List ℕ)) → is_end word ≡ true → position_or_len is_end (word ∷ tail) ≡ 0
at_end word tail is = rw is refl

-- a word that ends the folders is the first such
pub hit : (ws rest tail : List (List ℕ)) (word : List ℕ) (count : ℕ) → rest ≡ drop count ws → count + position_or_len is_end rest
    ≡ position_or_len is_end ws
    → rest ≡ word ∷ tail → is_end word ≡ true → tail ≡ after_first is_end ws
hit ws rest tail word count left place is ends = grind (arith, at_end, drop, dropped_one)

pub left_one : (ws rest tail : List (List ℕ)) (word : List ℕ) (count : ℕ) → rest ≡ drop count ws → rest ≡ word ∷ tail
    → tail ≡ drop (count + 1) ws
left_one ws rest tail word count left is = sym (dropped_one count ws word tail (sym left ∙ is))

pub place_one : (ws rest tail : List (List ℕ)) (word : List ℕ) (count : ℕ) → count + position_or_len is_end rest ≡ position_or_len is_end ws
    → rest ≡ word ∷ tail → is_end word ≡ false → count + 1 + position_or_len is_end tail ≡ position_or_len is_end ws
place_one ws rest tail word count place is goes = grind (arith)

pub few_one : (ws rest tail : List (List ℕ)) (word : List ℕ) (count : ℕ) → count + length rest ≡ length ws → rest ≡ word ∷ tail
    → count + 1 + length tail ≡ length ws
few_one ws rest tail word count few is = let one : length rest ≡ suc (length tail) = ap length is in omega (arith, one, few)
