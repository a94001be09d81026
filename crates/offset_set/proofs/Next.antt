-- The next offset of a set is one alone, and that of the offsets of a list is the least of those above.
use Rattle.std.proofs.Common.{◌≡◌, ℕ, ◌<◌, ◌≤◌, Bool, true, false, ltb, eqb, min, cond, List, [], ◌∷◌, Option, Some, None, refl, sym}
use Rattle.std.proofs.Common.{ap, ◌∙◌, arith, inl, inr, ltb-true, ltb-false, eq-eqb, ne_eqb, true≢false, ◌⊎◌}
use Rattle.std.proofs.lemmas.Bool.{cases_lt, or_from, or_left, or_right}
use Rattle.offset_set.specs.Sets.{IsNext, is_among, lesser_of, least_above, nearest}
use Rattle.offset_set.specs.Tallies.{IsNearest, tally_of}

-- ---- one alone

pub one-next : (set : ℕ → Bool) (offset : ℕ) (o q : Option ℕ) → IsNext set offset o → IsNext set offset q → o ≡ q
one-next set offset None None h k = refl
one-next set offset None (Some n) h k = absurd (true≢false (sym k.1 ∙ h n k.0))
one-next set offset (Some m) None h k = absurd (true≢false (sym h.1 ∙ k m h.0))
one-next set offset (Some m) (Some n) h k = ap Some (by_order (cases_lt m n) (cases_lt n m))
  where
    by_order : (m < n) ⊎ (n ≤ m) → (n < m) ⊎ (m ≤ n) → m ≡ n
    by_order (inl lt) b = absurd (true≢false (sym h.1 ∙ k.2 m h.0 lt))
    by_order (inr le) (inl lt) = absurd (true≢false (sym k.1 ∙ h.2 n k.0 lt))
    by_order (inr le) (inr ge) = omega arith

-- ---- of a list

itself : (n : ℕ) → eqb n n ≡ true
itself n = eq-eqb n n refl

step : (offset n : ℕ) (ns : List ℕ) (b : Bool) (o : Option ℕ) → ltb offset n ≡ b → IsNext (is_among ns) offset o
    → IsNext (is_among (n ∷ ns)) offset (cond b (Some (lesser_of n o)) o)
step offset n ns true None e h = grind (arith, ltb-true, or_left, eqb, itself, or_from, ne_eqb)
step offset n ns true (Some m) e h =
    let lt = ltb-true offset n e in
    let above = h.0 in (
      omega arith,
      least (cases_lt m n),
      λ other lt below. or_from (eqb n other) (is_among ns other) (ne_eqb n other (λ same. absurd (omega arith)))
          (h.2 other lt (omega arith)),
    )
  where
    least : (m < n) ⊎ (n ≤ m) → is_among (n ∷ ns) (min n m) ≡ true
    least (inl lt) = let same : min n m ≡ m = omega arith in rw same (or_right (eqb n m) (is_among ns m) h.1)
    least (inr le) = let same : min n m ≡ n = omega arith in rw same (or_left (eqb n n) (is_among ns n) (itself n))
step offset n ns false None e h = grind (arith, ltb-false, or_from, eqb, ne_eqb)
step offset n ns false (Some m) e h = grind (arith, ltb-false, or_right, eqb, or_from, ne_eqb)

pub next-above : (offset : ℕ) (ns : List ℕ) → IsNext (is_among ns) offset (least_above offset ns)
next-above offset [] = λ other lt. refl
next-above offset (n ∷ ns) = step offset n ns (ltb offset n) (least_above offset ns) refl (next-above offset ns)

-- what is the nearest of a tally is that of the list that was counted
pub is-nearest : (ns : List ℕ) (offset : ℕ) (near : Option ℕ) → IsNearest (tally_of ns) offset near → near ≡ nearest ns offset
is-nearest ns offset near h = grind (arith, one-next, next-above)
