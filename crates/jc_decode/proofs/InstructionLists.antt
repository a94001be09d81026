-- Instructions that are found one after another, each where the one before it ends, as those of a method's code are by
-- decoding.
use Rattle.std.proofs.Common.{◌≡◌, ◌<◌, ◌≤◌, ◌+◌, ◌⊎◌, inl, inr, ⊎_elim, ℕ, zero, suc, Some, Result, Ok, Err, List, [], ◌∷◌}
use Rattle.std.proofs.Common.{◌++◌, refl, sym, ap, ◌∙◌, subst, arith, Contains}
use Rattle.std.specs.Prelude.{slice_get, IsErr}
use Rattle.jc_decode.specs.declared.insn.Insn.{Insn}
use Rattle.jc_decode.specs.declared.insn.Placed.{Placed}
use Rattle.jc_decode.specs.declared.insn.CodeEnd.{CodeEnd}
use Rattle.jc_decode.specs.Decoding.{decoded, IsWithin}
use Rattle.jc_decode.specs.Listing.{listing, end_from, ListsFound, Lists}
use Rattle.jc_decode.specs.Places.{place_after, BeginsIn}
use Rattle.jc_decode.specs.Laws.{InstructionsAreListed}
use Rattle.jc_decode.proofs.Decoded.{IsWithin-decoded, ok-same}
use Rattle.jc_decode.proofs.Listing.{Lists-listing_from, listing_from-start}
use Rattle.jc_decode.proofs.Elements.{nothing-in, Contains-either, Contains-first, Contains-later, Contains-slice_get}

-- why none is found
pub err-of : (r : Result Insn CodeEnd) → IsErr r → (end : CodeEnd) × (r ≡ Err end)
err-of x h = grind (arith)

-- ---- where a list ends

pub ends-later : (from : ℕ) (qs : List Placed) → from ≤ end_from from qs
ends-later from [] = omega arith
ends-later from (q ∷ qs) = let h = ends-later (from + q.insn.len) qs in omega arith

pub end-after : (at : ℕ) (before : List Placed) (i : Placed)
    → end_from at (before ++ i ∷ []) ≡ end_from at before + i.insn.len
end-after at [] i = refl
end-after at (p ∷ ps) i = end-after (at + p.insn.len) ps i

-- ---- instructions that are found in any way

module _ (found : ℕ → Result Insn CodeEnd) where
  pub record IsFound (at : ℕ) (i : Placed) : Type 0 where
    pub from : at ≤ i.place
    pub is : found i.place ≡ Ok i.insn

  pub found-in : (at : ℕ) (ps : List Placed) (i : Placed)
      → ListsFound found at ps
      → Contains ps i
      → IsFound at i
  found-in at [] i l c = absurd (nothing-in i c)
  found-in at (p ∷ ps) i l c =
      ⊎_elim (λ here. subst (IsFound at) here (record { from = omega (arith, l.0); is = ap found l.0 ∙ l.1 }))
      (λ later. let r = found-in (at + p.insn.len) ps i l.2 later in record { from = omega (arith, r.from); is = r.is })
      (Contains-either p ps i c)

  -- one instruction is found at a place
  pub one-in : (at : ℕ) (ps : List Placed) (i j : Placed)
      → ListsFound found at ps
      → Contains ps i
      → Contains ps j
      → i.place ≡ j.place
      → i ≡ j
  one-in at ps i j l c d same = grind (arith, found-in at ps j l d, found-in at ps i l c, ok-same)

  -- each begins after those before it
  pub after-in : (at : ℕ) (ps : List Placed) (i j : Placed)
      → ListsFound found at ps
      → Contains ps i
      → Contains ps j
      → i.place < j.place
      → place_after i ≤ j.place
  after-in at [] i j l c d lt = absurd (nothing-in i c)
  after-in at (p ∷ ps) i j l c d lt =
      ⊎_elim
      (λ here. ⊎_elim (λ both. absurd (omega (arith, ap (λ (q : Placed). q.place) (sym here ∙ both))))
      (λ later. subst (λ (q : Placed). q.place + q.insn.len ≤ j.place) here
      (omega (arith, l.0, (found-in (at + p.insn.len) ps j l.2 later).from))) (Contains-either p ps j d))
      (λ there. ⊎_elim
      (λ here. absurd (omega (
        arith,
        l.0,
        ap (λ (q : Placed). q.place) here,
        (found-in (at + p.insn.len) ps i l.2 there).from,
        lt,
      )))
      (λ later. after-in (at + p.insn.len) ps i j l.2 there later lt) (Contains-either p ps j d))
      (Contains-either p ps i c)

  -- each ends where they all end, or before
  pub within-in : (at : ℕ) (ps : List Placed) (i : Placed)
      → ListsFound found at ps
      → Contains ps i
      → place_after i ≤ end_from at ps
  within-in at [] i l c = absurd (nothing-in i c)
  within-in at (p ∷ ps) i l c =
      ⊎_elim (λ here. subst (λ (q : Placed). q.place + q.insn.len ≤ end_from (at + p.insn.len) ps) here
      (omega (arith, l.0, ends-later (at + p.insn.len) ps)))
      (λ later. within-in (at + p.insn.len) ps i l.2 later)
      (Contains-either p ps i c)

  -- after each the next begins, or they end
  abbrev GoesOnIn : ℕ → List Placed → List Placed → ℕ → Type 0
  GoesOnIn from qs ps place = (place ≡ end_from from qs) ⊎ BeginsIn ps place

  pub next-in : (at : ℕ) (ps : List Placed) (i : Placed)
      → ListsFound found at ps
      → Contains ps i
      → (place_after i ≡ end_from at ps) ⊎ BeginsIn ps (place_after i)
  next-in at [] i l c = absurd (nothing-in i c)
  next-in at (p ∷ ps) i l c =
      ⊎_elim (λ here. this here ps l.2) (λ later. on (next-in (at + p.insn.len) ps i l.2 later))
      (Contains-either p ps i c)
    where
      here-end : p ≡ i → place_after i ≡ at + p.insn.len
      here-end here =
          let place = ap (λ (q : Placed). q.place) here in
          let len = ap (λ (q : Placed). q.insn.len) here in omega (arith, l.0)

      this : p ≡ i → (qs : List Placed)
          → ListsFound found (at + p.insn.len) qs
          → GoesOnIn (at + p.insn.len) qs (p ∷ qs) (place_after i)
      this here [] rest = inl (here-end here)
      this here (q ∷ qs) rest = inr (q, Contains-later p (q ∷ qs) q (Contains-first q qs), rest.0 ∙ sym (here-end here))

      on : GoesOnIn (at + p.insn.len) ps ps (place_after i) → GoesOnIn (at + p.insn.len) ps (p ∷ ps) (place_after i)
      on (inl end) = inl end
      on (inr b) = inr (b.0, Contains-later p ps b.0 b.1, b.2)

  pub first-in : (at : ℕ) (ps : List Placed)
      → ListsFound found at ps
      → (at ≡ end_from at ps) ⊎ BeginsIn ps at
  first-in at [] l = inl refl
  first-in at (p ∷ ps) l = inr (p, Contains-first p ps, l.0)

  -- where they end none is found
  pub none-at-end : (at : ℕ) (ps : List Placed) → ListsFound found at ps → IsErr (found (end_from at ps))
  none-at-end at [] l = l
  none-at-end at (p ∷ ps) l = none-at-end (at + p.insn.len) ps l.2

-- and each of which is a byte long at least
module _ (found : ℕ → Result Insn CodeEnd) (long : (at : ℕ) (i : Insn) → found at ≡ Ok i → 1 ≤ i.len) where
  -- their places rise
  rising-in : (at : ℕ) (ps : List Placed) (a b : ℕ) (i j : Placed)
      → ListsFound found at ps
      → slice_get ps a ≡ Some i
      → slice_get ps b ≡ Some j
      → a < b
      → i.place < j.place
  rising-in at [] a b i j l h k lt = absurd (cc)
  rising-in at (p ∷ ps) a zero i j l h k lt = absurd (omega arith)
  rising-in at (p ∷ ps) zero (suc b) i j l h k lt = grind (arith, found-in found (at + p.insn.len) ps j l.2 (Contains-slice_get ps b j k))
  rising-in at (p ∷ ps) (suc a) (suc b) i j l h k lt = rising-in (at + p.insn.len) ps a b i j l.2 h k (omega arith)

  -- and each is before the place where they end
  pub before-in : (at : ℕ) (ps : List Placed) (i : Placed)
      → ListsFound found at ps
      → Contains ps i
      → i.place < end_from at ps
  before-in at ps i l c = grind (arith, found-in found at ps i l c, within-in found at ps i l c)

-- ---- those that are decoded from a code

module _ (code : List ℕ) where
  all-listed : Lists code 0 (listing code)
  all-listed = subst (Lists code 0) (listing_from-start code) (Lists-listing_from code 0)

  decoded-there : (i : Placed) → Contains (listing code) i → decoded code i.place ≡ Ok i.insn
  decoded-there i s = (found-in (decoded code) 0 (listing code) i all-listed s).is

  within-there : (i : Placed) → Contains (listing code) i → IsWithin code i.place i.insn
  within-there i s = IsWithin-decoded code i.place i.insn (decoded-there i s)

  long-there : (at : ℕ) (i : Insn) → decoded code at ≡ Ok i → 1 ≤ i.len
  long-there at i d = (IsWithin-decoded code at i d).one

pub all-are-listed : InstructionsAreListed
all-are-listed code = record {
  lists = all-listed code;
  decodes = decoded-there code;
  long = long-there code;
  reaches = λ at i d. (IsWithin-decoded code at i d).reaches;
  inside = λ i s. let w = within-there code i s in omega (arith, w.one, w.reaches);
  within = λ i s. (within-there code i s).reaches;
  one = λ i j s t same. one-in (decoded code) 0 (listing code) i j (all-listed code) s t same;
  after = λ i j s t lt. after-in (decoded code) 0 (listing code) i j (all-listed code) s t lt;
  rising = λ a b i j h k lt. rising-in (decoded code) (long-there code) 0 (listing code) a b i j (all-listed code) h k lt;
  before_end = λ i s. before-in (decoded code) (long-there code) 0 (listing code) i (all-listed code) s;
  stops = none-at-end (decoded code) 0 (listing code) (all-listed code);
}
