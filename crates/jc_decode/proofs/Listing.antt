-- The listing of a method's code, instruction by instruction; how many it may have is never seen again.
use Rattle.std.proofs.Common.{◌≡◌, ◌≤◌, ◌+◌, ℕ, zero, suc, Result, Ok, Err, List, [], ◌∷◌, length, refl, sym, arith}
use Rattle.std.proofs.Common.{rules}
use Rattle.std.specs.Prelude.{IsErr}
use Rattle.jc_decode.specs.declared.insn.Insn.{Insn}
use Rattle.jc_decode.specs.declared.insn.Placed.{Placed}
use Rattle.jc_decode.specs.declared.insn.CodeEnd.{CodeEnd}
use Rattle.jc_decode.specs.Decoding.{decoded}
use Rattle.jc_decode.specs.Listing.{listing, listed, at_most, listing_from, Lists}
use Rattle.jc_decode.proofs.Decoded.{IsWithin-decoded}

-- what follows is looked at only where an instruction is decoded
listed-same : (at : ℕ) (r : Result Insn CodeEnd) (f g : ℕ → List Placed)
    → ((i : Insn) → r ≡ Ok i → f (at + i.len) ≡ g (at + i.len)) → listed at r f ≡ listed at r g
listed-same at y f g same = grind (arith)

-- past the end nothing is decoded
none_past : (code : List ℕ) (at : ℕ) → length code ≤ at → (i : Insn) → decoded code at ≡ Ok i → ⊥
none_past code at past i h = let w = IsWithin-decoded code at i h in omega (arith, w.one, w.reaches)

-- where as many instructions are allowed as bytes are left, one more changes nothing
at_most-enough : (n : ℕ) (code : List ℕ) (at : ℕ) → length code ≤ at + n → at_most (suc n) code at ≡ at_most n code at
unfolding at_most
at_most-enough zero code at h = grind (arith, zero, none_past)
at_most-enough (suc n) code at h =
    listed-same at (decoded code at) (at_most (suc n) code) (at_most n code)
    (λ i e. let w = IsWithin-decoded code at i e in at_most-enough n code (at + i.len) (omega (arith, w.one)))

-- an instruction comes first where one is decoded, then those after it
pub listing_from-more : (code : List ℕ) (at : ℕ) (i : Insn) → decoded code at ≡ Ok i
    → listing_from code at ≡ record { place = at; insn = i } ∷ listing_from code (at + i.len)
unfolding listing_from at_most
listing_from-more code at i h = grind (arith, at_most-enough (length code) code at (omega arith))

-- where none is decoded the list ends
pub listing_from-end : (code : List ℕ) (at : ℕ) (e : CodeEnd) → decoded code at ≡ Err e → listing_from code at ≡ []
unfolding listing_from at_most
listing_from-end code at e h = grind (arith, at_most-enough)

-- the list of the instructions from a place on is the only one that lists them
Lists-at_most : (n : ℕ) (code : List ℕ) (at : ℕ) → length code ≤ at + n → Lists code at (at_most n code at)
unfolding at_most
Lists-at_most zero code at h = is_end (decoded code at) (none_past code at (omega arith))
  where
    is_end : (r : Result Insn CodeEnd) → ((i : Insn) → r ≡ Ok i → ⊥) → IsErr r
    is_end (Ok i) never = absurd (never i refl)
    is_end (Err e) never = search rules
Lists-at_most (suc n) code at h = rest (decoded code at) refl (λ next k. Lists-at_most n code next k)
  where
    rest : (r : Result Insn CodeEnd) → decoded code at ≡ r → ((next : ℕ) → length code ≤ next + n → Lists code next (at_most n code next))
        → Lists code at (listed at r (at_most n code))
    rest (Ok i) e more = let w = IsWithin-decoded code at i e in (refl, e, more (at + i.len) (omega (arith, w.one)))
    rest (Err f) e more = rw e (search rules)

pub Lists-listing_from : (code : List ℕ) (at : ℕ) → Lists code at (listing_from code at)
unfolding listing_from
Lists-listing_from code at = Lists-at_most (length code) code at (omega arith)

pub listing_from-Lists : (code : List ℕ) (at : ℕ) (ps : List Placed) → Lists code at ps → ps ≡ listing_from code at
listing_from-Lists code at [] h = ends (decoded code at) refl h
  where
    ends : (r : Result Insn CodeEnd) → decoded code at ≡ r → IsErr r → [] ≡ listing_from code at
    ends (Ok i) e bad = absurd (search rules)
    ends (Err f) e bad = sym (listing_from-end code at f e)
listing_from-Lists code at (p ∷ ps) h = grind (arith, listing_from-more, listing_from-Lists code (at + p.insn.len) ps h.2)

-- a listing from the first place is that of the code
pub listing_from-start : (code : List ℕ) → listing_from code 0 ≡ listing code
unfolding listing
listing_from-start code = refl

pub ruleset listing_facts = (listing_from-more, listing_from-end, listing_from-start)
