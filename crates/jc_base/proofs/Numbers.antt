-- The entries of a target index, by the bytes that spell them.
use Rattle.std.proofs.Common.{◌≡◌, ℕ, zero, suc, ◌+◌, ◌*◌, ◌/◌, ◌≤◌, ◌<◌, List, [], ◌∷◌, length, drop, take, Some}
use Rattle.std.proofs.Common.{None, refl, arith}
use Rattle.std.specs.Prelude.{slice_get}
use Rattle.byteorder.specs.Endian.{big_number}
use Rattle.jc_base.specs.Index.{words_of_bytes}

pub numbers_count : (bytes : List ℕ) → length bytes / 2 ≡ length (words_of_bytes bytes)
numbers_count [] = refl
numbers_count (high ∷ []) = refl
numbers_count (high ∷ low ∷ bytes) = omega (arith, numbers_count bytes)

first-number : (high low : ℕ) → high * 256 + (low * 1 + 0) ≡ high * 256 + low
first-number high low = omega arith

pub number_there : (k at n : ℕ) (bytes : List ℕ) → at ≡ k * 2 → n ≡ 2 → at + 2 ≤ length bytes
    → Some (big_number 2 (take n (drop at bytes))) ≡ slice_get (words_of_bytes bytes) k
number_there k at n [] e two le = absurd (omega (arith, le))
number_there k at n (high ∷ []) e two le = absurd (omega (arith, le))
number_there zero at n (high ∷ low ∷ bytes) e two le = grind (arith, first-number)
number_there (suc k) zero n (high ∷ low ∷ bytes) e two le = absurd (omega (arith, e))
number_there (suc k) (suc zero) n (high ∷ low ∷ bytes) e two le = absurd (omega (arith, e))
number_there (suc k) (suc (suc at)) n (high ∷ low ∷ bytes) e two le = number_there k at n bytes (omega (arith, e)) two (omega (arith, le))

pub number_past : (k at : ℕ) (bytes : List ℕ) → at ≡ k * 2 → length bytes < at + 2 → None ≡ slice_get (words_of_bytes bytes) k
number_past k at [] e lt = refl
number_past k at (high ∷ []) e lt = refl
number_past zero at (high ∷ low ∷ bytes) e lt = absurd (omega (arith, e, lt))
number_past (suc k) zero (high ∷ low ∷ bytes) e lt = absurd (omega (arith, e))
number_past (suc k) (suc zero) (high ∷ low ∷ bytes) e lt = absurd (omega (arith, e))
number_past (suc k) (suc (suc at)) (high ∷ low ∷ bytes) e lt = number_past k at bytes (omega (arith, e)) (omega (arith, lt))
