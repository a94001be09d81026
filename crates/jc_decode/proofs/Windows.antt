-- Bytes that stand in two lists are read alike.
use Rattle.std.proofs.Common.{◌≡◌, ◌<◌, ◌≤◌, ◌+◌, ℕ, zero, suc, Bool, Some, List, length, drop, slice_index, refl, sym, ap, ◌∙◌}
use Rattle.std.proofs.Common.{arith}
use Rattle.std.specs.Prelude.{map}
use Rattle.std.specs.List.{find, range_with_len}
use Rattle.std.proofs.lemmas.List.{get_or-drop}
use Rattle.byteorder.specs.Endian.{big_number}
use Rattle.cap_bytes.specs.Number.{number_at}
use Rattle.jc_decode.specs.declared.layout.Operand.{Operand}
use Rattle.jc_decode.specs.declared.layout.Operand.TheVariants.{Absent, U1, U2, S1, S2, S4, DupWords, SwapWords, ArrayType, TestedType}
use Rattle.jc_decode.specs.Layout.{operand_width}
use Rattle.jc_decode.specs.Decoding.{operand_number, operand_at}
use Rattle.cap_bytes.proofs.Same.{big_same}

-- so many bytes from a place of one list are those from a place of another, and both lists reach so far
pub record Alike (xs : List ℕ) (t : ℕ) (ys : List ℕ) (u m : ℕ) : Type 0 where
  pub bytes : (k : ℕ) → k < m → slice_index xs (t + k) ≡ slice_index ys (u + k)
  pub left : t + m ≤ length xs
  pub right : u + m ≤ length ys

-- a part of what is alike
pub Alike-part : (xs : List ℕ) (t : ℕ) (ys : List ℕ) (u m a n : ℕ) → Alike xs t ys u m → a + n ≤ m → Alike xs (t + a) ys (u + a) n
Alike-part xs t ys u m a n w inside = record {
  bytes =
      λ k h. let e : t + a + k ≡ t + (a + k) = omega arith in let f : u + a + k ≡ u + (a + k) = omega arith in
      rw (e, f) (w.bytes (a + k) (omega arith));
  left = let h = w.left in omega arith;
  right = let h = w.right in omega arith;
}

pub number_at-reached : (w at : ℕ) (xs : List ℕ) → at + w ≤ length xs → number_at w at xs ≡ Some (big_number w (drop at xs))
number_at-reached w at xs h = grind arith

pub number_at-alike : (w t u : ℕ) (xs ys : List ℕ) → Alike xs t ys u w → number_at w t xs ≡ number_at w u ys
number_at-alike w t u xs ys a =
    let same = big_same w 0 (drop t xs) (drop u ys) (λ k h.
    let z : 0 + k ≡ k = omega arith in
    rw z (get_or-drop t xs k 0 ∙ a.bytes k h ∙ sym (get_or-drop u ys k 0))) in
    number_at-reached w t xs a.left ∙ ap Some same ∙ sym (number_at-reached w u ys a.right)

number_of-alike : (o : Operand) (t u : ℕ) (xs ys : List ℕ) → Alike xs t ys u (operand_width o) → operand_number o xs t ≡ operand_number o ys u
number_of-alike Absent t u xs ys a = refl
number_of-alike U1 t u xs ys a = number_at-alike 1 t u xs ys a
number_of-alike U2 t u xs ys a = number_at-alike 2 t u xs ys a
number_of-alike S1 t u xs ys a = number_at-alike 1 t u xs ys a
number_of-alike S2 t u xs ys a = number_at-alike 2 t u xs ys a
number_of-alike S4 t u xs ys a = number_at-alike 4 t u xs ys a
number_of-alike DupWords t u xs ys a = number_at-alike 1 t u xs ys a
number_of-alike SwapWords t u xs ys a = number_at-alike 1 t u xs ys a
number_of-alike ArrayType t u xs ys a = number_at-alike 1 t u xs ys a
number_of-alike TestedType t u xs ys a = number_at-alike 1 t u xs ys a

-- an operand is read alike
pub operand_at-alike : (o : Operand) (t u : ℕ) (xs ys : List ℕ) → Alike xs t ys u (operand_width o) → operand_at o xs t ≡ operand_at o ys u
operand_at-alike o t u xs ys a = rw (number_of-alike o t u xs ys a) refl

-- a search, and a list, that use the numbers of a range alone
pub find-alike : (p q : ℕ → Bool) (a k : ℕ) → ((n : ℕ) → a ≤ n → n < a + k → p n ≡ q n)
    → find p (range_with_len a k) ≡ find q (range_with_len a k)
find-alike p q a zero same = refl
find-alike p q a (suc k) same =
    rw (same a (omega arith) (omega arith), find-alike p q (a + 1) k (λ n low high. same n (omega arith) (omega arith))) refl

pub map-alike : {X : Type 0} (f g : ℕ → X) (a k : ℕ) → ((n : ℕ) → a ≤ n → n < a + k → f n ≡ g n)
    → map f (range_with_len a k) ≡ map g (range_with_len a k)
map-alike f g a zero same = refl
map-alike f g a (suc k) same =
    rw (same a (omega arith) (omega arith), map-alike f g (a + 1) k (λ n low high. same n (omega arith) (omega arith))) refl
