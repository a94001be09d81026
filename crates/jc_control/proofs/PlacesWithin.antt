-- The places of a method's code lie within it.
use Rattle.std.proofs.Common.{◌≡◌, ◌+◌, ◌<◌, ◌≤◌, ℕ, List, [], ◌∷◌, ◌++◌, length, sym, subst, arith}
use Rattle.std.specs.Prelude.{ℤ, pos, negsuc, ◌≤ℤ◌, ◌<ℤ◌}
use Rattle.std.proofs.lemmas.Int.{ints}
use Rattle.jc_decode.specs.declared.insn.Placed.{Placed}
use Rattle.jc_decode.specs.Listing.{listing, Lists, end_from}
use Rattle.jc_decode.proofs.InstructionLists.{end-after}
use Rattle.jc_decode.specs.Laws.{AreListed}
use Rattle.jc_control.specs.WellFormed.{IsPlace, IsTargetPlace}
use Rattle.jc_control.proofs.Elements.{contained-in}

-- where the next instruction of a walk stands
pub at-end : (code : List ℕ) (at : ℕ) (before : List Placed) (i : Placed) (after : List Placed) → Lists code at (before ++ i ∷ after)
    → i.place ≡ end_from at before
at-end code at [] i after l = l.0
at-end code at (p ∷ ps) i after l = at-end code (at + p.insn.len) ps i after l.2

module _ (code : List ℕ) (law : AreListed code) where
  pub place-inside : (p : ℕ) → IsPlace code p → p < length code
  place-inside p here = let inside = law.inside here.0 here.1 in omega (arith, inside, here.2)

  -- the next instruction of a walk stands in the code
  pub next-inside : (before : List Placed) (i : Placed) (after : List Placed) → before ++ i ∷ after ≡ listing code → i.place < length code
  next-inside before i after whole = law.inside i (contained-in before i after (listing code) whole)

  -- and ends there
  pub next-within : (before : List Placed) (i : Placed) (after : List Placed) → before ++ i ∷ after ≡ listing code
      → i.place + i.insn.len ≤ length code
  next-within before i after whole = law.within i (contained-in before i after (listing code) whole)

  pub next-end : (before : List Placed) (i : Placed) (after : List Placed) → before ++ i ∷ after ≡ listing code
      → i.place + i.insn.len ≡ end_from 0 (before ++ i ∷ [])
  next-end before i after whole = grind (arith, at-end, end-after)

  -- a target that is a place is a number that fits in sixteen bits
  pub target-range : (t : ℤ) → IsTargetPlace code t → length code ≤ 32767 → (pos 0 ≤ℤ t) × (t <ℤ pos 65536)
  target-range (pos p) h short = let inside = place-inside p h in (omega (arith, ints), omega (arith, ints))
  target-range (negsuc n) h short = absurd h

  pub target-place : (p : ℕ) (t : ℤ) → IsTargetPlace code t → pos p ≡ t → p < length code
  target-place p t h same = place-inside p (subst (IsTargetPlace code) (sym same) h)
