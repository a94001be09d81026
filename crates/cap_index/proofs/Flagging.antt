-- Flags of the targets of instructions.
use Rattle.std.proofs.Common.{◌≡◌, ◌<◌, ◌≤◌, ◌+◌, ◌⊎◌, inl, inr, ⊎_elim, ℕ, zero, suc, Bool, true, false, cond, List, []}
use Rattle.std.proofs.Common.{◌∷◌, length, Some, refl, sym, ap, ◌∙◌, subst, arith, Contains}
use Rattle.std.specs.Prelude.{ℤ, pos, negsuc, replicate, slice_get, slice_set, nat_lt, ◌&&◌}
use Rattle.std.proofs.lemmas.Bool.{false≢true, and_parts, lt-ltb, ltb-true}
use Rattle.std.proofs.lemmas.List.{length-set, length-replicate}
use Rattle.jc_decode.specs.declared.insn.Placed.{Placed}
use Rattle.jc_decode.specs.Laws.{AreListed}
use Rattle.jc_decode.specs.Listing.{listing, targets}
use Rattle.jc_decode.specs.Places.{IsTargetIn}
use Rattle.jc_decode.proofs.Elements.{nothing-in, Contains-first, Contains-later, Contains-either}
use Rattle.jc_control.specs.Flags.{flag, IsFlagged, Marks}
use Rattle.jc_control.specs.WellFormed.{IsPlace}
use Rattle.jc_control.proofs.Marked.{flag-none, flagged-inside, flag-here, flag-kept, flag-only}
use Rattle.jc_control.specs.ExactIndex.{IsPlacedTarget, IsExactIndex}
use Rattle.cap_index.specs.Marking.{mark, marked, all_marked, flagged_from}

-- ---- one target

mark_long : (place : ℕ → Bool) (fs : List Bool) (t : ℤ) → length (mark place fs t) ≡ length fs
mark_long place fs (negsuc n) = refl
mark_long place fs (pos p) = by (place p && nat_lt p (length fs))
  where
    by : (b : Bool) → length (cond b (slice_set fs p true) fs) ≡ length fs
    by true = length-set fs p true
    by false = refl

mark_kept : (place : ℕ → Bool) (fs : List Bool) (t : ℤ) (q : ℕ) → IsFlagged fs q → IsFlagged (mark place fs t) q
mark_kept place fs (negsuc n) q h = h
mark_kept place fs (pos p) q h = by (place p && nat_lt p (length fs)) refl
  where
    by : (b : Bool) → (place p && nat_lt p (length fs)) ≡ b → IsFlagged (cond b (slice_set fs p true) fs) q
    by true e = flag-kept fs p q (ltb-true p (length fs) (and_parts (place p) (nat_lt p (length fs)) e).1) h
    by false e = h

mark_one : (place : ℕ → Bool) (fs : List Bool) (p : ℕ) → place p ≡ true → p < length fs → IsFlagged (mark place fs (pos p)) p
mark_one place fs p e lt = by (place p) (nat_lt p (length fs)) e (lt-ltb p (length fs) lt)
  where
    by : (a b : Bool) → a ≡ true → b ≡ true → IsFlagged (cond (a && b) (slice_set fs p true) fs) p
    by true true e f = flag-here fs p lt
    by true false e f = absurd (false≢true f)
    by false b e f = absurd (false≢true e)

record IsMarked (place : ℕ → Bool) (t : ℤ) (q : ℕ) : Type 0 where
  is : t ≡ pos q
  known : place q ≡ true

mark_only : (place : ℕ → Bool) (fs : List Bool) (t : ℤ) (q : ℕ) → IsFlagged (mark place fs t) q → IsFlagged fs q ⊎ IsMarked place t q
mark_only place fs (negsuc n) q h = inl h
mark_only place fs (pos p) q h = by (place p && nat_lt p (length fs)) refl h
  where
    by : (b : Bool) → (place p && nat_lt p (length fs)) ≡ b → IsFlagged (cond b (slice_set fs p true) fs) q → IsFlagged fs q
        ⊎ IsMarked place (pos p) q
    by true e h =
        ⊎_elim inl
        (λ same. inr (record { is = ap pos (sym same); known = subst (λ k. place k ≡ true) (sym same) (and_parts (place p) (nat_lt p (length fs)) e).0 }))
        (flag-only fs p q h)
    by false e h = inl h

-- ---- those of an instruction

marked_long : (place : ℕ → Bool) (fs : List Bool) (ts : List ℤ) → length (marked place fs ts) ≡ length fs
marked_long place fs [] = refl
marked_long place fs (t ∷ ts) = marked_long place (mark place fs t) ts ∙ mark_long place fs t

marked_kept : (place : ℕ → Bool) (fs : List Bool) (ts : List ℤ) (q : ℕ) → IsFlagged fs q → IsFlagged (marked place fs ts) q
marked_kept place fs [] q h = h
marked_kept place fs (t ∷ ts) q h = marked_kept place (mark place fs t) ts q (mark_kept place fs t q h)

marked_one : (place : ℕ → Bool) (fs : List Bool) (ts : List ℤ) (q : ℕ) → Contains ts (pos q) → place q ≡ true → q < length fs
    → IsFlagged (marked place fs ts) q
marked_one place fs [] q c e lt = absurd (nothing-in (pos q) c)
marked_one place fs (t ∷ ts) q c e lt =
    ⊎_elim
    (λ here. marked_kept place (mark place fs t) ts q (subst (λ s. IsFlagged (mark place fs s) q) (sym here) (mark_one place fs q e lt)))
    (λ later. marked_one place (mark place fs t) ts q later e (omega (arith, mark_long place fs t)))
    (Contains-either t ts (pos q) c)

record IsMarkedOf (place : ℕ → Bool) (ts : List ℤ) (q : ℕ) : Type 0 where
  among : Contains ts (pos q)
  known : place q ≡ true

marked_only : (place : ℕ → Bool) (fs : List Bool) (ts : List ℤ) (q : ℕ) → IsFlagged (marked place fs ts) q → IsFlagged fs q
    ⊎ IsMarkedOf place ts q
marked_only place fs [] q h = inl h
marked_only place fs (t ∷ ts) q h =
    ⊎_elim
    (λ before. ⊎_elim inl
    (λ m. inr (record { among = subst (λ s. Contains (s ∷ ts) (pos q)) (sym m.is) (Contains-first (pos q) ts); known = m.known }))
    (mark_only place fs t q before))
    (λ m. inr (record { among = Contains-later t ts (pos q) m.among; known = m.known }))
    (marked_only place (mark place fs t) ts q h)

-- ---- those of instructions

all_long : (code : List ℕ) (place : ℕ → Bool) (fs : List Bool) (is : List Placed) → length (all_marked code place fs is) ≡ length fs
all_long code place fs [] = refl
all_long code place fs (i ∷ is) = all_long code place (marked place fs (targets code i)) is ∙ marked_long place fs (targets code i)

all_kept : (code : List ℕ) (place : ℕ → Bool) (fs : List Bool) (is : List Placed) (q : ℕ) → IsFlagged fs q
    → IsFlagged (all_marked code place fs is) q
all_kept code place fs [] q h = h
all_kept code place fs (i ∷ is) q h = all_kept code place (marked place fs (targets code i)) is q (marked_kept place fs (targets code i) q h)

all_one : (code : List ℕ) (place : ℕ → Bool) (fs : List Bool) (is : List Placed) (i : Placed) (q : ℕ) → Contains is i
    → Contains (targets code i) (pos q) → place q ≡ true → q < length fs → IsFlagged (all_marked code place fs is) q
all_one code place fs [] i q c t e lt = absurd (nothing-in i c)
all_one code place fs (j ∷ is) i q c t e lt =
    ⊎_elim
    (λ here. all_kept code place (marked place fs (targets code j)) is q
    (marked_one place fs (targets code j) q (subst (λ k. Contains (targets code k) (pos q)) (sym here) t) e lt))
    (λ later. all_one code place (marked place fs (targets code j)) is i q later t e (omega (arith, marked_long place fs (targets code j))))
    (Contains-either j is i c)

record IsMarkedIn (code : List ℕ) (place : ℕ → Bool) (is : List Placed) (q : ℕ) : Type 0 where
  target : IsTargetIn code is q
  known : place q ≡ true

all_only : (code : List ℕ) (place : ℕ → Bool) (fs : List Bool) (is : List Placed) (q : ℕ) → IsFlagged (all_marked code place fs is) q
    → IsFlagged fs q ⊎ IsMarkedIn code place is q
all_only code place fs [] q h = inl h
all_only code place fs (i ∷ is) q h =
    ⊎_elim
    (λ before. ⊎_elim inl (λ m. inr (record { target = record { from = i; stands = Contains-first i is; leads = m.among }; known = m.known }))
    (marked_only place fs (targets code i) q before))
    (λ m. let t = m.target in
    inr (record { target = record { from = t.from; stands = Contains-later i is t.from t.stands; leads = t.leads }; known = m.known }))
    (all_only code place (marked place fs (targets code i)) is q h)

-- ---- the places that are flagged

from_low : (k : ℕ) (fs : List Bool) (n p : ℕ) → slice_get (flagged_from k fs) n ≡ Some p → k ≤ p
from_low k [] n p h = absurd (cc)
from_low k (true ∷ fs) zero p h = let e : k ≡ p = cc in omega arith
from_low k (true ∷ fs) (suc n) p h = let r = from_low (k + 1) fs n p h in omega arith
from_low k (false ∷ fs) n p h = let r = from_low (k + 1) fs n p h in omega arith

rising : (k : ℕ) (fs : List Bool) (a b p q : ℕ) → slice_get (flagged_from k fs) a ≡ Some p → slice_get (flagged_from k fs) b ≡ Some q → a < b
    → p < q
rising k [] a b p q h g lt = absurd (cc)
rising k (false ∷ fs) a b p q h g lt = rising (k + 1) fs a b p q h g lt
rising k (true ∷ fs) a zero p q h g lt = absurd (omega arith)
rising k (true ∷ fs) zero (suc b) p q h g lt = grind (arith, from_low)
rising k (true ∷ fs) (suc a) (suc b) p q h g lt = rising (k + 1) fs a b p q h g (omega arith)

record IsFlaggedAt (k : ℕ) (fs : List Bool) (q : ℕ) : Type 0 where
  number : ℕ
  flagged : IsFlagged fs number
  place : q ≡ k + number

has_flag : (k : ℕ) (fs : List Bool) (q : ℕ) → Contains (flagged_from k fs) q → IsFlaggedAt k fs q
has_flag k [] q c = absurd (nothing-in q c)
has_flag k (false ∷ fs) q c = let r = has_flag (k + 1) fs q c in record { number = suc r.number; flagged = r.flagged; place = omega (arith, r.place) }
has_flag k (true ∷ fs) q c =
    ⊎_elim
    (λ here. record { number = 0; flagged = refl; place = omega (arith, here) })
    (λ later. let r = has_flag (k + 1) fs q later in record { number = suc r.number; flagged = r.flagged; place = omega (arith, r.place) })
    (Contains-either k (flagged_from (k + 1) fs) q c)

flag_has : (k : ℕ) (fs : List Bool) (n : ℕ) → IsFlagged fs n → Contains (flagged_from k fs) (k + n)
flag_has k [] n h = absurd (let r = flagged-inside [] n h in omega arith)
flag_has k (true ∷ fs) zero h = grind (arith)
flag_has k (true ∷ fs) (suc n) h =
    let e : k + 1 + n ≡ k + suc n = omega arith in
    subst (Contains (k ∷ flagged_from (k + 1) fs)) e (Contains-later k (flagged_from (k + 1) fs) (k + 1 + n) (flag_has (k + 1) fs n h))
flag_has k (false ∷ fs) zero h = absurd (false≢true h)
flag_has k (false ∷ fs) (suc n) h = grind (arith, suc, flag_has (k + 1) fs n h)

-- ---- the exact index

pub exact_of_flags : (code : List ℕ) (places fs : List Bool) (index : List ℕ) → Marks (IsPlace code) places → AreListed code
    → fs ≡ all_marked code (flag places) (replicate (length code) false) (listing code) → index ≡ flagged_from 0 fs → IsExactIndex code index
exact_of_flags code places fs index marks listed e f = subst (IsExactIndex code) (sym (f ∙ ap (flagged_from 0) e)) (record {
  ascending = λ k p q h g. rising 0 all k (k + 1) p q h g (omega arith);
  targets = λ q. (
    λ c. let r = has_flag 0 all q c in target q (subst (IsFlagged all) (omega (arith, r.place)) r.flagged),
    λ t. subst (Contains (flagged_from 0 all)) (zero_and q)
        (flag_has 0 all q (all_one code (flag places) none (listing code) t.target.from q t.target.stands t.target.leads ((marks q).1 t.place)
        (inside q t.place))),
  );
})
  where
    zero_and : (n : ℕ) → 0 + n ≡ n
    zero_and n = omega arith

    none : List Bool
    none = replicate (length code) false

    all : List Bool
    all = all_marked code (flag places) none (listing code)

    inside : (q : ℕ) → IsPlace code q → q < length none
    inside q p = let i = listed.inside p.0 p.1 in omega (arith, p.2, length-replicate (length code) false)

    target : (q : ℕ) → IsFlagged all q → IsPlacedTarget code q
    target q h = grind (arith, ⊎_elim, false≢true, flag-none, length, all_only, none)

-- there are as many flags as the code has bytes
pub flags_long : (code : List ℕ) (place : ℕ → Bool) (fs old : List Bool) (is : List Placed) → fs ≡ all_marked code place old is
    → length fs ≡ length old
flags_long code place fs old is e = ap length e ∙ all_long code place old is

pub flagged_few : (k : ℕ) (fs : List Bool) → length (flagged_from k fs) ≤ length fs
flagged_few k [] = omega arith
flagged_few k (true ∷ fs) = let r = flagged_few (k + 1) fs in omega arith
flagged_few k (false ∷ fs) = let r = flagged_few (k + 1) fs in omega arith
