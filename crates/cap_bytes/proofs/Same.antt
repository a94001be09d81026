-- Bytes that are the same spell the same.
use Rattle.std.proofs.Common.{◌≡◌, ℕ, zero, suc, ◌+◌, ◌-◌, ◌≤◌, ◌<◌, List, length, take, drop, slice_index, refl, sym, ap, ◌∙◌}
use Rattle.std.proofs.Common.{arith}
use Rattle.std.proofs.lemmas.List.{get_or-drop, get_or-take, length-take, length-drop, ext_get_or}
use Rattle.byteorder.specs.Endian.{big_from}
use Rattle.cap_bytes.specs.Number.{number_at}
use Rattle.cap_bytes.specs.Grammar.{Grammar, give, number, piece, remaining, place, finish, ◌>>=◌}
use Rattle.cap_bytes.specs.Spelling.{Spells}
use Rattle.cap_bytes.proofs.UntilLoops.{moves_on}
use Rattle.cap_bytes.specs.Renewal.{AreSame}

pub same_part : (low high a b : ℕ) (bytes out : List ℕ) → AreSame low high bytes out → low ≤ a → b ≤ high → AreSame a b bytes out
same_part low high a b bytes out s l h = record { each = λ k m n. s.each k (omega arith) (omega arith) }

-- a number is read from its bytes alone
pub big_same : (n i : ℕ) (xs ys : List ℕ) → ((k : ℕ) → k < n → slice_index xs (i + k) ≡ slice_index ys (i + k))
    → big_from i n xs ≡ big_from i n ys
big_same zero i xs ys same = refl
big_same (suc n) i xs ys same =
    let z : i + 0 ≡ i = omega arith in
    let first : slice_index xs i ≡ slice_index ys i = rw z at (same 0 (omega arith)) in
    let rest = big_same n (suc i) xs ys (λ k h. let e : suc i + k ≡ i + suc k = omega arith in rw e (same (suc k) (omega arith))) in
    rw (first, rest) refl

pub number_same : (w at : ℕ) (bytes out : List ℕ) → length out ≡ length bytes → AreSame at (at + w) bytes out
    → number_at w at out ≡ number_at w at bytes
number_same w at bytes out len s = grind (arith, drop, big_same, get_or-drop)

pub piece_same : (n at : ℕ) (bytes out : List ℕ) → length out ≡ length bytes → AreSame at (at + n) bytes out
    → take n (drop at out) ≡ take n (drop at bytes)
piece_same n at bytes out len s =
    let l : length (take n (drop at out)) ≡ length (take n (drop at bytes)) = simp (length-take, length-drop, len) in
    ext_get_or 0 (take n (drop at out)) (take n (drop at bytes)) l (λ i h.
    let few : i < n = omega (arith, length-take n (drop at out)) in
    get_or-take n (drop at out) i 0 few ∙ get_or-drop at out i 0 ∙ s.each (at + i) (omega arith) (omega arith)
    ∙ sym (get_or-take n (drop at bytes) i 0 few ∙ get_or-drop at bytes i 0))

pub spelled_same : {X : Type 0} (g : Grammar X) (bytes out : List ℕ) (at : ℕ) (x : X) (after : ℕ) → length out ≡ length bytes
    → AreSame at after bytes out → Spells g bytes at x after → Spells g out at x after
unfolding Spells
spelled_same (give y) bytes out at x after len s h = h
spelled_same (number w wrong) bytes out at n after len s h = grind (arith, same_part, number_same)
spelled_same (piece n) bytes out at part after len s h = grind (arith, same_part, piece_same)
spelled_same remaining bytes out at n after len s h = (h.0 ∙ ap (λ l. l - at) (sym len), h.1)
spelled_same place bytes out at n after len s h = h
spelled_same finish bytes out at x after len s h = (omega (arith, h.0, len), h.1)
spelled_same (g >>= next) bytes out at y after len s h =
    let a = moves_on g bytes at h.0 h.1 h.2 in
    let b = moves_on (next h.0) bytes h.1 y after h.3 in (
      h.0,
      h.1,
      spelled_same g bytes out at h.0 h.1 len (same_part at after at h.1 bytes out s (omega arith) b) h.2,
      spelled_same (next h.0) bytes out h.1 y after len (same_part at after h.1 after bytes out s a (omega arith)) h.3,
    )
