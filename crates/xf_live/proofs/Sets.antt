-- Sets of registers as words: what each operation puts into them.
use Rattle.std.proofs.Common.{◌≡◌, ℕ, zero, suc, ◌-◌, ◌*◌, ◌/◌, ◌%◌, ◌^◌, ◌<◌, ◌⊎◌, inl, inr, ⊎_elim, min, refl, sym, ap, ◌∙◌}
use Rattle.std.proofs.Common.{subst, arith, w64}
use Rattle.std.specs.Prelude.{bit_and, bit_or}
use Rattle.std.specs.Int.{bit_at, bit_not}
use Rattle.std.proofs.lemmas.Nat.{or_lt, le_or_l, one_shl, div-add-mod', mod_below}
use Rattle.std.proofs.lemmas.Nat.Bits.{bit_at-lt, bit_at-zero, bit_at_or, bit_at_and, bit_at_not, bit_at-pow_same, bit_at-pow_other}
use Rattle.std.proofs.lemmas.Bool.{cases_eq, cases_lt}
use Rattle.xf_live.specs.declared.set.RegisterSet.{RegisterSet}
use Rattle.xf_live.specs.Set.{word, Has, IsEmpty, IsWith, IsUnion, IsMinus, weight, IsSmall}

-- ---- bits

low-bits : (x : ℕ) → x % 64 < 64
low-bits x = mod_below x 64 (omega arith)

or-bit : (a b i : ℕ) → bit_at (bit_or a b) i ≡ 1 → (bit_at a i ≡ 1) ⊎ (bit_at b i ≡ 1)
or-bit a b i e = elim (cases_eq (bit_at a i) 1) [
  | inl one ↦ inl one
  | inr other ↦ inr (omega (arith, e, bit_at_or a b i, bit_at-lt a i, bit_at-lt b i, other))
]

or-first : (a b i : ℕ) → bit_at a i ≡ 1 → bit_at (bit_or a b) i ≡ 1
or-first a b i e = omega (arith, e, bit_at_or a b i, bit_at-lt a i, bit_at-lt b i)

or-second : (a b i : ℕ) → bit_at b i ≡ 1 → bit_at (bit_or a b) i ≡ 1
or-second a b i e = omega (arith, e, bit_at_or a b i, bit_at-lt a i, bit_at-lt b i)

-- ---- empty sets

word-empty : (k : ℕ) → word (record { first = 0; second = 0; third = 0; fourth = 0 }) k ≡ 0
word-empty zero = refl
word-empty (suc zero) = refl
word-empty (suc (suc zero)) = refl
word-empty (suc (suc (suc zero))) = refl
word-empty (suc (suc (suc (suc n)))) = refl

pub empty-is : IsEmpty (record { first = 0; second = 0; third = 0; fourth = 0 })
empty-is x h = grind (arith, word-empty, bit_at-zero)

-- ---- unions

abbrev pub union_of : RegisterSet → RegisterSet → RegisterSet
union_of s t = record {
  first = bit_or s.first t.first;
  second = bit_or s.second t.second;
  third = bit_or s.third t.third;
  fourth = bit_or s.fourth t.fourth;
}

word-union : (s t : RegisterSet) (k : ℕ) → word (union_of s t) k ≡ bit_or (word s k) (word t k)
word-union s t zero = refl
word-union s t (suc zero) = refl
word-union s t (suc (suc zero)) = refl
word-union s t (suc (suc (suc zero))) = refl
word-union s t (suc (suc (suc (suc n)))) = refl

pub union-is : (s t : RegisterSet) → IsUnion s t (union_of s t)
union-is s t x = grind (arith, t, word-union, ⊎_elim, or-bit, or-first, or-second)

same-sets : (s t : RegisterSet) → s.first ≡ t.first → s.second ≡ t.second → s.third ≡ t.third → s.fourth ≡ t.fourth → s ≡ t
same-sets s t a b c d = grind (arith, t)

-- it is the first set, or its words are more
pub union-rises : (s t : RegisterSet) → (union_of s t ≡ s) ⊎ (weight s < weight (union_of s t))
union-rises s t = grind (arith, le_or_l, t, cases_lt, same-sets)

pub union-small : (s t : RegisterSet) → IsSmall s → IsSmall t → IsSmall (union_of s t)
union-small s t a b = record {
  first = or_lt 64 s.first t.first a.first b.first;
  second = or_lt 64 s.second t.second a.second b.second;
  third = or_lt 64 s.third t.third a.third b.third;
  fourth = or_lt 64 s.fourth t.fourth a.fourth b.fourth;
}

-- ---- one more

-- a word with a bit more
with-bit : (a k i : ℕ) → k < 64 → bit_at (bit_or a ((1 * 2 ^ k) % 2 ^ 64)) i ≡ 1 → (bit_at a i ≡ 1) ⊎ (i ≡ k)
with-bit a k i lt e = elim (cases_eq i k) [
  | inl same ↦ inr same
  | inr other ↦ ⊎_elim (λ one. inl one)
      (λ one. absurd
      (omega (arith, one, bit_at-pow_other k i other, sym (ap (λ m. bit_at m i) (one_shl k 64 lt)))))
      (or-bit a ((1 * 2 ^ k) % 2 ^ 64) i e)
]

has-bit : (a k : ℕ) → k < 64 → bit_at (bit_or a ((1 * 2 ^ k) % 2 ^ 64)) k ≡ 1
has-bit a k lt = or-second a ((1 * 2 ^ k) % 2 ^ 64) k (ap (λ m. bit_at m k) (one_shl k 64 lt) ∙ bit_at-pow_same k)

-- one word of the set has that bit more, the others are as before
pub record IsWordWith (s t : RegisterSet) (register : ℕ) : Type 0 where
  pub here : word t (register / 64) ≡ bit_or (word s (register / 64)) ((1 * 2 ^ (register % 64)) % 2 ^ 64)
  pub others : (k : ℕ) → (k ≡ register / 64 → ⊥) → word t k ≡ word s k

pub with-is : (s t : RegisterSet) (register : ℕ) → IsWordWith s t register → IsWith s register t
with-is s t register w x = (λ h. to h, λ c. ⊎_elim kept put c)
  where
    to : Has t x → Has s x ⊎ (x ≡ register)
    to h = elim (cases_eq (x / 64) (register / 64)) [
      | inl same ↦
          let bit : bit_at (word t (register / 64)) (x % 64) ≡ 1 = ap (λ k. bit_at (word t k) (x % 64)) (sym same) ∙ h.bit in
          let more = with-bit (word s (register / 64)) (register % 64) (x % 64) (low-bits register) (ap (λ n. bit_at n (x % 64)) (sym w.here) ∙ bit) in
          ⊎_elim (λ one. inl (record { bit = ap (λ k. bit_at (word s k) (x % 64)) same ∙ one }))
          (λ e. inr (omega (arith, e, same, div-add-mod' x 64, div-add-mod' register 64))) more
      | inr other ↦ inl (record { bit = ap (λ n. bit_at n (x % 64)) (sym (w.others (x / 64) other)) ∙ h.bit })
    ]

    kept : Has s x → Has t x
    kept h = elim (cases_eq (x / 64) (register / 64)) [
      | inl same ↦
          let bit : bit_at (word s (register / 64)) (x % 64) ≡ 1 = ap (λ k. bit_at (word s k) (x % 64)) (sym same) ∙ h.bit in
          record {
            bit = ap (λ k. bit_at (word t k) (x % 64)) same
                ∙ (ap (λ n. bit_at n (x % 64)) w.here
                ∙ or-first (word s (register / 64)) ((1 * 2 ^ (register % 64)) % 2 ^ 64) (x % 64) bit);
          }
      | inr other ↦ record { bit = ap (λ n. bit_at n (x % 64)) (w.others (x / 64) other) ∙ h.bit }
    ]

    put : x ≡ register → Has t x
    put e = grind (arith, t, has-bit, low-bits)

-- the four words, one of which has the bit of the register

pub with-first : (s : RegisterSet) (register : ℕ) → register / 64 ≡ 0
    → IsWordWith s (record s { first = bit_or s.first ((1 * 2 ^ (register % 64)) % 2 ^ 64) }) register
with-first s register e = record { here = subst (λ k. word t k ≡ bit_or (word s k) more) (sym e) refl; others = λ k apart. other k (λ h. apart (h ∙ sym e)) }
  where
    more : ℕ
    more = (1 * 2 ^ (register % 64)) % 2 ^ 64

    t : RegisterSet
    t = record s { first = bit_or s.first more }

    other : (k : ℕ) → (k ≡ 0 → ⊥) → word t k ≡ word s k
    other zero apart = absurd (apart refl)
    other (suc zero) apart = refl
    other (suc (suc zero)) apart = refl
    other (suc (suc (suc zero))) apart = refl
    other (suc (suc (suc (suc k)))) apart = refl

pub with-second : (s : RegisterSet) (register : ℕ) → register / 64 ≡ 1
    → IsWordWith s (record s { second = bit_or s.second ((1 * 2 ^ (register % 64)) % 2 ^ 64) }) register
with-second s register e = record { here = subst (λ k. word t k ≡ bit_or (word s k) more) (sym e) refl; others = λ k apart. other k (λ h. apart (h ∙ sym e)) }
  where
    more : ℕ
    more = (1 * 2 ^ (register % 64)) % 2 ^ 64

    t : RegisterSet
    t = record s { second = bit_or s.second more }

    other : (k : ℕ) → (k ≡ 1 → ⊥) → word t k ≡ word s k
    other zero apart = refl
    other (suc zero) apart = absurd (apart refl)
    other (suc (suc zero)) apart = refl
    other (suc (suc (suc zero))) apart = refl
    other (suc (suc (suc (suc k)))) apart = refl

pub with-third : (s : RegisterSet) (register : ℕ) → register / 64 ≡ 2
    → IsWordWith s (record s { third = bit_or s.third ((1 * 2 ^ (register % 64)) % 2 ^ 64) }) register
with-third s register e = record { here = subst (λ k. word t k ≡ bit_or (word s k) more) (sym e) refl; others = λ k apart. other k (λ h. apart (h ∙ sym e)) }
  where
    more : ℕ
    more = (1 * 2 ^ (register % 64)) % 2 ^ 64

    t : RegisterSet
    t = record s { third = bit_or s.third more }

    other : (k : ℕ) → (k ≡ 2 → ⊥) → word t k ≡ word s k
    other zero apart = refl
    other (suc zero) apart = refl
    other (suc (suc zero)) apart = absurd (apart refl)
    other (suc (suc (suc zero))) apart = refl
    other (suc (suc (suc (suc k)))) apart = refl

pub with-fourth : (s : RegisterSet) (register : ℕ) → register / 64 ≡ 3
    → IsWordWith s (record s { fourth = bit_or s.fourth ((1 * 2 ^ (register % 64)) % 2 ^ 64) }) register
with-fourth s register e = record { here = subst (λ k. word t k ≡ bit_or (word s k) more) (sym e) refl; others = λ k apart. other k (λ h. apart (h ∙ sym e)) }
  where
    more : ℕ
    more = (1 * 2 ^ (register % 64)) % 2 ^ 64

    t : RegisterSet
    t = record s { fourth = bit_or s.fourth more }

    other : (k : ℕ) → (k ≡ 3 → ⊥) → word t k ≡ word s k
    other zero apart = refl
    other (suc zero) apart = refl
    other (suc (suc zero)) apart = refl
    other (suc (suc (suc zero))) apart = absurd (apart refl)
    other (suc (suc (suc (suc k)))) apart = refl

-- ---- differences

abbrev pub minus_of : RegisterSet → RegisterSet → RegisterSet
minus_of s t = record {
  first = bit_and s.first (bit_not w64 t.first);
  second = bit_and s.second (bit_not w64 t.second);
  third = bit_and s.third (bit_not w64 t.third);
  fourth = bit_and s.fourth (bit_not w64 t.fourth);
}

word-minus : (s t : RegisterSet) (k : ℕ) → word (minus_of s t) k ≡ bit_and (word s k) (bit_not w64 (word t k))
word-minus s t zero = refl
word-minus s t (suc zero) = refl
word-minus s t (suc (suc zero)) = refl
word-minus s t (suc (suc (suc zero))) = refl
word-minus s t (suc (suc (suc (suc n)))) = refl

word-small : (s : RegisterSet) (k : ℕ) → IsSmall s → word s k < 2 ^ 64
word-small s zero small = small.first
word-small s (suc zero) small = small.second
word-small s (suc (suc zero)) small = small.third
word-small s (suc (suc (suc zero))) small = small.fourth
word-small s (suc (suc (suc (suc n)))) small = omega arith

pub minus-is : (s t : RegisterSet) → IsSmall t → IsMinus s t (minus_of s t)
minus-is s t small x =
    let a : ℕ = word s (x / 64) in
    let b : ℕ = word t (x / 64) in
    let i : ℕ = x % 64 in
    let e : bit_at (word (minus_of s t) (x / 64)) i ≡ bit_at (bit_and a (bit_not w64 b)) i = ap (λ n. bit_at n i) (word-minus s t (x / 64)) in
    let both : bit_at (bit_and a (bit_not w64 b)) i ≡ min (bit_at a i) (bit_at (bit_not w64 b) i) = bit_at_and a (bit_not w64 b) i in
    let turned : bit_at (bit_not w64 b) i ≡ 1 - bit_at b i = bit_at_not w64 b i (word-small t (x / 64) small) (low-bits x) in (
      λ h. (
        record { bit = omega (arith, e, both, turned, h.bit, bit_at-lt a i) },
        λ (k : Has t x). absurd (omega (arith, e, both, turned, h.bit, k.bit)),
      ),
      λ c. record { bit = omega (arith, e, both, turned, c.0.bit, bit_at-lt b i, lacks b i (λ one. c.1 (record { bit = one }))) },
    )
  where
    lacks : (b i : ℕ) → (bit_at b i ≡ 1 → ⊥) → bit_at b i ≡ 0
    lacks b i none = omega (arith, bit_at-lt b i, none)
