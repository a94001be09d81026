-- Bytes and references of the image by their places.
use Rattle.std.proofs.Common.{◌≡◌, ℕ, zero, suc, ◌+◌, ◌-◌, ◌*◌, ◌≤◌, ◌<◌, min, List, [], ◌∷◌, ◌++◌, length, get_or}
use Rattle.std.proofs.Common.{replicate, refl, arith}
use Rattle.cap_method.specs.StaticFormat.{Array, Statics}
use Rattle.jc_link.specs.Image.{image, handles, references}

null_at : (n k : ℕ) → ◌≡◌ {A = ℕ} (get_or (replicate n 0) k 0) 0
null_at zero k = refl
null_at (suc n) zero = refl
null_at (suc n) (suc k) = null_at n k

zero_before : (n k : ℕ) (xs : List ℕ) → k < n → get_or (replicate n 0 ++ xs) k 0 ≡ 0
zero_before zero k xs h = absurd (omega arith)
zero_before (suc n) zero xs h = refl
zero_before (suc n) (suc k) xs h = zero_before n k xs (omega arith)

value_after : (n k : ℕ) (xs : List ℕ) → n ≤ k → get_or (replicate n 0 ++ xs) k 0 ≡ get_or xs (k - n) 0
value_after zero k xs h = let e : k - 0 ≡ k = omega arith in rw e refl
value_after (suc n) zero xs h = absurd (omega arith)
value_after (suc n) (suc k) xs h = let e : suc k - suc n ≡ k - n = omega arith in rw e (value_after n k xs (omega arith))

pub byte_in_zeros : (s : Statics) (offset : ℕ) → offset < 2 * s.reference_count + s.default_value_count → get_or (image s) offset 0 ≡ 0
byte_in_zeros s offset h = zero_before (2 * s.reference_count + s.default_value_count) offset s.values h

pub byte_in_values : (s : Statics) (offset : ℕ) → 2 * s.reference_count + s.default_value_count ≤ offset
    → get_or (image s) offset 0 ≡ get_or s.values (offset - (2 * s.reference_count + s.default_value_count)) 0
byte_in_values s offset h = value_after (2 * s.reference_count + s.default_value_count) offset s.values h

handle_at : (first : ℕ) (arrays : List Array) (m k : ℕ) → k < length arrays → get_or (handles first arrays ++ replicate m 0) k 0 ≡ min (first + k)
    65535
handle_at first [] m k h = absurd (omega arith)
handle_at first (a ∷ others) m zero h = omega arith
handle_at first (a ∷ others) m (suc k) h = omega (arith, handle_at (first + 1) others m k (omega arith))

no_handle : (first : ℕ) (arrays : List Array) (m k : ℕ) → length arrays ≤ k → get_or (handles first arrays ++ replicate m 0) k 0 ≡ 0
no_handle first [] m k h = null_at m k
no_handle first (a ∷ others) m zero h = absurd (omega arith)
no_handle first (a ∷ others) m (suc k) h = no_handle (first + 1) others m k (omega arith)

pub handle_in : (first : ℕ) (s : Statics) (k : ℕ) → k < length s.arrays → get_or (references first s) k 0 ≡ min (first + k) 65535
handle_in first s k h = handle_at first s.arrays (s.reference_count - length s.arrays) k h

pub handle_past : (first : ℕ) (s : Statics) (k : ℕ) → length s.arrays ≤ k → get_or (references first s) k 0 ≡ 0
handle_past first s k h = no_handle first s.arrays (s.reference_count - length s.arrays) k h
