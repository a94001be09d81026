-- The n-th nibble stands in the byte n / 2.
use Rattle.std.proofs.Common.{◌≡◌, ℕ, zero, suc, ◌+◌, ◌*◌, ◌/◌, ◌%◌, ◌≤◌, ◌<◌, List, [], ◌∷◌, length, take, Some, Bool}
use Rattle.std.proofs.Common.{leb, refl, ap, ◌∙◌, arith, length-take-le}
use Rattle.std.specs.List.{slice_get}
use Rattle.std.proofs.lemmas.Bool.{le-leb, lt-leb, leb-true, leb-false}
use Rattle.cap_bytes.specs.Number.{number_at}
use Rattle.cap_desc.specs.TypeFormat.{nibbles}

one_more : (n b : ℕ) (t : Bool) → leb (n + 1) b ≡ t → leb (suc n + 1) (suc b) ≡ t
one_more n b x e = grind (arith, leb-true, le-leb, suc, leb-false, lt-leb)

-- a number of one item is that item
pub number-item : (xs : List ℕ) (n : ℕ) → number_at 1 n xs ≡ slice_get xs n
number-item [] n = rw (lt-leb (n + 1) 0 (omega arith)) refl
number-item (x ∷ xs) zero = let e : x * 1 + 0 ≡ x = omega arith in rw (le-leb 1 (suc (length xs)) (omega arith)) (ap Some e)
number-item (x ∷ xs) (suc n) = rw (one_more n (length xs) _ refl) (number-item xs n)

pub item-taken : (xs : List ℕ) (count n : ℕ) → n < count → slice_get (take count xs) n ≡ slice_get xs n
item-taken xs zero n lt = absurd (omega arith)
item-taken [] (suc count) n lt = refl
item-taken (x ∷ xs) (suc count) zero lt = refl
item-taken (x ∷ xs) (suc count) (suc n) lt = item-taken xs count n (omega arith)

pub high-nibble : (bytes : List ℕ) (n byte : ℕ) → n % 2 ≡ 0 → slice_get bytes (n / 2) ≡ Some byte
    → slice_get (nibbles bytes) n ≡ Some (byte / 16)
high-nibble [] n byte even e = absurd cc
high-nibble (b ∷ bs) zero byte even e = let h : b ≡ byte = cc in rw h refl
high-nibble (b ∷ bs) (suc zero) byte even e = absurd (omega arith)
high-nibble (b ∷ bs) (suc (suc n)) byte even e =
    let half : suc (suc n) / 2 ≡ suc (n / 2) = omega arith in
    high-nibble bs n byte (omega arith) (rw half at e)

pub low-nibble : (bytes : List ℕ) (n byte : ℕ) → (n % 2 ≡ 0 → ⊥) → slice_get bytes (n / 2) ≡ Some byte
    → slice_get (nibbles bytes) n ≡ Some (byte % 16)
low-nibble [] n byte odd e = absurd cc
low-nibble (b ∷ bs) zero byte odd e = absurd (odd refl)
low-nibble (b ∷ bs) (suc zero) byte odd e = let h : b ≡ byte = cc in rw h refl
low-nibble (b ∷ bs) (suc (suc n)) byte odd e =
    let half : suc (suc n) / 2 ≡ suc (n / 2) = omega arith in
    let same : suc (suc n) % 2 ≡ n % 2 = omega arith in
    low-nibble bs n byte (λ h. odd (same ∙ h)) (rw half at e)

pub length-nibbles : (bytes : List ℕ) → length (nibbles bytes) ≡ 2 * length bytes
length-nibbles [] = refl
length-nibbles (b ∷ bs) = let e = length-nibbles bs in omega arith

pub length-some : (bytes : List ℕ) (count : ℕ) → count ≤ 2 * length bytes → length (take count (nibbles bytes)) ≡ count
length-some bytes count h = let e = length-nibbles bytes in let l : count ≤ length (nibbles bytes) = omega arith in length-take-le count (nibbles bytes) l
