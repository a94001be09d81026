-- Bits by offset are a set of offsets.
use Rattle.std.proofs.Common.{◌≡◌, ◌≢◌, ℕ, ◌+◌, ◌*◌, ◌/◌, ◌%◌, ◌^◌, ◌<◌, ◌≤◌, Bool, true, false, ◌||◌}
use Rattle.std.proofs.Common.{eqb, List, length, get_or, set, replicate, refl, sym, ap, ◌∙◌, inl, inr, arith, bit_or, eqb-true, eq-eqb, ne_eqb}
use Rattle.std.proofs.Common.{w64, ◌-◌, ◌⊎◌, Some, None, div-le_self}
use mathlib.Core.Path.{fun_ext}
use Rattle.std.specs.Int.{bit_at, trailing_zeros}
use Rattle.std.proofs.lemmas.Bool.{cases_lt, eqb-false}
use Rattle.std.proofs.lemmas.List.{get_or-set_other, get_or-set_same, get_or-replicate, get_or_past, length-replicate}
use Rattle.std.proofs.lemmas.Nat.Bits.{bit_at-zero, bit_at_set_same, bit_at_set_other, bit_at_above, bit_at-trailing_zeros}
use Rattle.std.proofs.lemmas.Nat.{shr-shr, trailing_le}
use Rattle.offset_set.specs.Sets.{nowhere, also, IsNext}
use Rattle.offset_set.specs.Bits.{is_set}

-- ---- no bit

pub no-bits : (n : ℕ) → is_set (replicate n 0) ≡ nowhere
unfolding is_set
no-bits n = grind (arith, bit_at-zero, cases_lt, get_or-replicate, get_or_past, replicate, length-replicate)

-- ---- one more

same_word : (word k j : ℕ) (b : Bool) → k < 64 → eqb k j ≡ b → eqb (bit_at (bit_or word (1 * 2 ^ k % 2 ^ 64)) j) 1 ≡ (b || eqb (bit_at word j) 1)
same_word word k j true lt e = grind (arith, eqb-true k j e, bit_at_set_same w64 word k lt)
same_word word k j false lt e =
    let apart : j ≢ k = λ same. eqb-false k j e (sym same) in
    rw (bit_at_set_other w64 word k lt j apart) refl

module _ (words : List ℕ) (one : ℕ) (within : one / 64 < length words) where
  abbrev marked : List ℕ
  marked = set words (one / 64) (bit_or (get_or words (one / 64) 0) (1 * 2 ^ (one % 64) % 2 ^ 64))

  by_word : (offset : ℕ) (b : Bool) → eqb (one / 64) (offset / 64) ≡ b → eqb (bit_at (get_or marked (offset / 64) 0) (offset % 64)) 1
      ≡ (eqb one offset || eqb (bit_at (get_or words (offset / 64) 0) (offset % 64)) 1)
  by_word offset true e = grind (arith, eqb-true, get_or-set_same, bit_or, get_or, eqb, same_word, eq-eqb, eqb-false, ne_eqb)
  by_word offset false e = grind (arith, eqb-false, get_or-set_other, bit_or, get_or, ne_eqb)

  pub one-more : is_set marked ≡ also one (is_set words)
  unfolding is_set
  one-more = fun_ext (λ offset. by_word offset (eqb (one / 64) (offset / 64)) refl)

-- ---- the next one

-- no offset between these two is set
pub record IsFree (words : List ℕ) (offset end : ℕ) : Type 0 where
  pub free : (other : ℕ) → offset < other → other < end → is_set words other ≡ false

-- a place of a word
at_word : (words : List ℕ) (other word : ℕ) → other / 64 ≡ word → is_set words other ≡ eqb (bit_at (get_or words word 0) (other % 64)) 1
unfolding is_set
at_word words other word e = rw e refl

set_at : (words : List ℕ) (other word : ℕ) → other / 64 ≡ word → bit_at (get_or words word 0) (other % 64) ≡ 1 → is_set words other ≡ true
set_at words other word e bit = at_word words other word e ∙ rw bit refl

free_at : (words : List ℕ) (other word : ℕ) → other / 64 ≡ word → bit_at (get_or words word 0) (other % 64) ≡ 0 → is_set words other ≡ false
free_at words other word e bit = at_word words other word e ∙ rw bit refl

-- the bits of a word above one of its bits
above_bit : (word k j : ℕ) → bit_at (word / 2 ^ k / 2) j ≡ bit_at word (k + 1 + j)
above_bit word k j = ap (λ n. n / 2 ^ j % 2) (shr-shr word k 1) ∙ ap (λ n. n % 2) (shr-shr word (k + 1) j)

module _ (words : List ℕ) (offset : ℕ) where
  abbrev first : ℕ
  first = get_or words (offset / 64) 0

  abbrev above : ℕ
  above = first / 2 ^ (offset % 64) / 2

  -- the lowest bit of a word above that of the offset
  pub record FirstAbove (word : ℕ) : Type 0 where
    pub within : offset % 64 + 1 + trailing_zeros w64 (word / 2 ^ (offset % 64) / 2) < 64
    pub next : IsNext (is_set words) offset (Some (offset + 1 + trailing_zeros w64 (word / 2 ^ (offset % 64) / 2)))

  first_above : 0 < above → first < 2 ^ 64 → FirstAbove first
  first_above some short =
      let lowest = bit_at-trailing_zeros w64 above some (shorter some short) in
      let t = trailing_zeros w64 above in
      let there : bit_at first (offset % 64 + 1 + t) ≡ 1 = sym (above_bit first (offset % 64) t) ∙ lowest.1 in
      let within = inside t there short in
      record {
        within = within;
        next = (omega arith, there_set t within there, λ other lt below. before other lt (omega arith) (lowest.2 (other - offset - 1) (omega arith)));
      }
    where
      shorter : 0 < above → first < 2 ^ 64 → above < 2 ^ 64
      shorter some short =
          let a = div-le_self first (2 ^ (offset % 64)) in
          let b = div-le_self (first / 2 ^ (offset % 64)) 2 in
          omega arith

      inside : (t : ℕ) → bit_at first (offset % 64 + 1 + t) ≡ 1 → first < 2 ^ 64 → offset % 64 + 1 + t < 64
      inside t there short =
          elim (cases_lt (offset % 64 + 1 + t) 64)
          [ inl lt ↦ lt | inr le ↦ (let none = bit_at_above first 64 (offset % 64 + 1 + t) short le in absurd (omega arith)) ]

      there_set : (t : ℕ) → offset % 64 + 1 + t < 64 → bit_at first (offset % 64 + 1 + t) ≡ 1 → is_set words (offset + 1 + t) ≡ true
      there_set t within there = grind (arith, set_at)

      before : (other : ℕ) → offset < other → other / 64 ≡ offset / 64 → bit_at above (other - offset - 1) ≡ 0 → is_set words other ≡ false
      before other lt same none = grind (arith, free_at, above_bit)

  pub first-above : (word : ℕ) → word ≡ first → (word / 2 ^ (offset % 64) / 2 ≡ 0 → ⊥) → word < 2 ^ 64 → FirstAbove word
  first-above word e = grind (arith, first_above)

  -- where none is above, none stands in the rest of the word
  none_above : above ≡ 0 → IsFree words offset (64 * (offset / 64 + 1))
  none_above none = record { free = λ other lt below. rest other lt (omega arith) }
    where
      rest : (other : ℕ) → offset < other → other / 64 ≡ offset / 64 → is_set words other ≡ false
      rest other lt same =
          let place : other % 64 ≡ offset % 64 + 1 + (other - offset - 1) = omega arith in
          free_at words other (offset / 64) same
          (ap (bit_at first) place ∙ sym (above_bit first (offset % 64) (other - offset - 1)) ∙ ap (λ n. bit_at n (other - offset - 1)) none
          ∙ bit_at-zero (other - offset - 1))

  pub none-above : (word : ℕ) → word ≡ first → word / 2 ^ (offset % 64) / 2 ≡ 0 → IsFree words offset (64 * (offset / 64 + 1))
  none-above word e none = none_above (ap (λ w. w / 2 ^ (offset % 64) / 2) (sym e) ∙ none)

  -- a word without a bit
  pub none-in : (word bits : ℕ) → bits ≡ get_or words word 0 → IsFree words offset (64 * word) → bits ≡ 0 → IsFree words offset (64 * (word + 1))
  none-in word bits e before zero_bits = record { free = λ other lt below. by other lt below (cases_lt other (64 * word)) }
    where
      by : (other : ℕ) → offset < other → other < 64 * (word + 1) → (other < 64 * word) ⊎ (64 * word ≤ other) → is_set words other ≡ false
      by other lt below (inl less) = before.free other lt less
      by other lt below (inr le) = free_at words other word (omega arith) (ap (λ n. bit_at n (other % 64)) (sym e ∙ zero_bits) ∙ bit_at-zero (other % 64))

  pub record FirstIn (word bits : ℕ) : Type 0 where
    pub within : trailing_zeros w64 bits < 64
    pub next : IsNext (is_set words) offset (Some (word * 64 + trailing_zeros w64 bits))

  -- the lowest bit of the first word that has one
  first_in : (word : ℕ) → offset < 64 * word → IsFree words offset (64 * word) → 0 < get_or words word 0 → get_or words word 0 < 2 ^ 64
      → FirstIn word (get_or words word 0)
  first_in word farther before some short =
      let lowest = bit_at-trailing_zeros w64 (get_or words word 0) some short in
      record {
        within = lowest.0;
        next = (
          omega (arith, lowest.0),
          there (trailing_zeros w64 (get_or words word 0)) lowest.0 lowest.1,
          λ other lt below. by other lt below lowest.2
              (cases_lt other (64 * word)),
        );
      }
    where
      there : (t : ℕ) → t < 64 → bit_at (get_or words word 0) t ≡ 1 → is_set words (word * 64 + t) ≡ true
      there t within bit =
          let place : (word * 64 + t) % 64 ≡ t = omega arith in
          set_at words (word * 64 + t) word (omega arith) (ap (bit_at (get_or words word 0)) place ∙ bit)

      by : (other : ℕ) → offset < other → other < word * 64 + trailing_zeros w64 (get_or words word 0)
          → ((i : ℕ) → i < trailing_zeros w64 (get_or words word 0) → bit_at (get_or words word 0) i ≡ 0) → (other < 64 * word)
          ⊎ (64 * word ≤ other) → is_set words other ≡ false
      by other lt below none x = grind (arith, before, trailing_le, get_or, free_at)

  pub first-in : (word bits : ℕ) → bits ≡ get_or words word 0 → offset < 64 * word → IsFree words offset (64 * word) → (bits ≡ 0 → ⊥)
      → bits < 2 ^ 64 → FirstIn word bits
  first-in word bits e farther before = grind (arith, first_in, before)

  -- no word is left
  pub none-left : (word : ℕ) → length words ≡ 1024 → IsFree words offset (64 * word) → 1024 ≤ word → IsNext (is_set words) offset None
  none-left word many before last = λ other lt. by other lt (cases_lt other 65536)
    where
      by : (other : ℕ) → offset < other → (other < 65536) ⊎ (65536 ≤ other) → is_set words other ≡ false
      by other lt (inl less) = before.free other lt (omega arith)
      by other lt (inr le) =
          free_at words other (other / 64) refl (ap (λ n. bit_at n (other % 64)) (get_or_past words (other / 64) 0 (omega arith))
          ∙ bit_at-zero (other % 64))
