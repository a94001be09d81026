-- The instructions of the code, one after another: those of its listing, up to the first that bare methods do not have.
use Rattle.std.proofs.Common.{◌≡◌, ◌∙◌, sym, ap, subst, cond, Bool, true, false, ℕ, zero, suc, ◌+◌, ◌<◌, ◌≤◌, ◌⊎◌, Option}
use Rattle.std.proofs.Common.{Some, None, Result, Ok, Err, List, [], ◌∷◌, ◌++◌, length, refl, arith, Contains}
use Rattle.std.proofs.lemmas.List.{append-nil}
use Rattle.std.proofs.Common.{append_assoc}
use Rattle.std.proofs.lemmas.List.Elements.{Contains-append_right}
use Rattle.std.proofs.lemmas.List.Sums.{take_while-cons}
use Rattle.std.specs.List.{take_while}
use Rattle.cap_bytes.specs.Number.{number_at}
use Rattle.jc_decode.specs.declared.insn.Insn.{Insn}
use Rattle.jc_decode.specs.declared.insn.Placed.{Placed}
use Rattle.jc_decode.specs.declared.insn.CodeEnd.{CodeEnd}
use Rattle.jc_decode.specs.declared.insn.CodeEnd.TheVariants.{OutOfScope}
use Rattle.jc_decode.specs.Decoding.{decoded}
use Rattle.jc_decode.specs.Listing.{listing_from, ListsFound}
use Rattle.jc_decode.specs.Places.{place_after}
use Rattle.jc_decode.proofs.Decoded.{Begins-decoded, IsWithin-decoded}
use Rattle.jc_decode.proofs.Listing.{listing_from-more, listing_from-end}
use Rattle.jc_decode.proofs.Elements.{Contains-first}
use Rattle.jc_decode.proofs.InstructionLists.{end-after, found-in, one-in, after-in, next-in, before-in}
use Rattle.cap_bare.specs.Format.{is_bare}
use Rattle.cap_bare.specs.Code.{in_scope, fetched, instructions, instructions_from, instructions_end, HasInstruction, IsPlace}
use Rattle.cap_bare.specs.Window.{IsSuffixAt}

abbrev pub here : ℕ → Insn → Placed
here at i = record { place = at; insn = i }

scope-ok : (o : Option ℕ) (r : Result Insn CodeEnd) (i : Insn) → in_scope o r ≡ Ok i → r ≡ Ok i
scope-ok None r i h = h
scope-ok (Some op) r i h = by_test (is_bare op) h
  where
    by_test : (b : Bool) → cond b r (Err (OutOfScope op)) ≡ Ok i → r ≡ Ok i
    by_test true h = h
    by_test false h = absurd (cc)

scope-bare : (op : ℕ) (r : Result Insn CodeEnd) (i : Insn) → in_scope (Some op) r ≡ Ok i → is_bare op ≡ true
scope-bare op r i h = by_test (is_bare op) h
  where
    by_test : (b : Bool) → cond b r (Err (OutOfScope op)) ≡ Ok i → b ≡ true
    by_test true h = refl
    by_test false h = absurd (cc)

module _ (code : List ℕ) where
  pub fetched-decoded : (at : ℕ) (i : Insn) → fetched code at ≡ Ok i → decoded code at ≡ Ok i
  unfolding fetched
  fetched-decoded at i h = scope-ok (number_at 1 at code) (decoded code at) i h

  pub fetched-bare : (at : ℕ) (i : Insn) → fetched code at ≡ Ok i → is_bare i.op ≡ true
  unfolding fetched
  fetched-bare at i h =
      let opcode = (Begins-decoded code at i (fetched-decoded at i h)).opcode in
      scope-bare i.op (decoded code at) i (ap (λ (o : Option ℕ). in_scope o (decoded code at)) (sym opcode) ∙ h)

  decoded-fetched : (at : ℕ) (i : Insn) → decoded code at ≡ Ok i → is_bare i.op ≡ true → fetched code at ≡ Ok i
  unfolding fetched
  decoded-fetched at i h bare = let opcode = (Begins-decoded code at i h).opcode in rw (opcode, bare) h

  -- where an instruction is found the list begins with it, and where none is it ends
  pub instructions-found : (at : ℕ) (i : Insn) → fetched code at ≡ Ok i
      → instructions_from code at ≡ here at i ∷ instructions_from code (at + i.len)
  unfolding instructions_from
  instructions-found at i h = grind (arith, fetched-bare, listing_from-more, fetched-decoded, take_while-cons)

  pub instructions-none : (at : ℕ) (end : CodeEnd) → fetched code at ≡ Err end → instructions_from code at ≡ []
  unfolding instructions_from
  instructions-none at end h = by_decoded (decoded code at) refl
    where
      by_bare : (i : Insn) → decoded code at ≡ Ok i → (b : Bool) → is_bare i.op ≡ b
          → cond b (here at i ∷ take_while (λ j. is_bare j.insn.op) (listing_from code (at + i.len))) [] ≡ []
      by_bare i e true bare = let found = decoded-fetched at i e bare in absurd (cc)
      by_bare i e false bare = refl

      by_decoded : (r : Result Insn CodeEnd) → decoded code at ≡ r → instructions_from code at ≡ []
      by_decoded (Ok i) e =
          rw (listing_from-more code at i e)
          (take_while-cons (λ j. is_bare j.insn.op) (here at i) (listing_from code (at + i.len)) ∙ by_bare i e (is_bare i.op) refl)
      by_decoded (Err f) e = rw (listing_from-end code at f e) refl

  -- an instruction stands here
  pub record IsHere (at : ℕ) (i : Placed) : Type 0 where
    pub place : i.place ≡ at
    pub found : fetched code at ≡ Ok i.insn

  pub is-here : (at : ℕ) (i : Insn) → fetched code at ≡ Ok i → IsHere at (here at i)
  is-here at i h = record { place = refl; found = h }

  -- it has a byte at least, and ends within the code
  pub record IsInside (at : ℕ) (i : Placed) : Type 0 where
    pub place : i.place ≡ at
    pub farther : at < place_after i
    pub inside : place_after i ≤ length code

  pub here-inside : (at : ℕ) (i : Placed) → IsHere at i → IsInside at i
  here-inside at i h =
      let within = IsWithin-decoded code at i.insn (fetched-decoded at i.insn h.found) in
      record { place = h.place; farther = omega (arith, h.place, within.one); inside = omega (arith, h.place, within.reaches) }

  -- after the end of the code none is found
  pub none-past : (at : ℕ) → length code ≤ at → (r : Result Insn CodeEnd) → fetched code at ≡ r
      → (end : CodeEnd) × (fetched code at ≡ Err end)
  none-past at le (Ok i) e = let inside = here-inside at (here at i) (is-here at i e) in absurd (omega (arith, inside.farther, inside.inside))
  none-past at le (Err end) e = (end, e)

  -- the list has the instructions from a place on, one after the other, to where none is
  abbrev pub Lists : ℕ → List Placed → Type 0
  Lists at is = ListsFound (fetched code) at is

  pub head-here : (at : ℕ) (i : Placed) (is : List Placed) → Lists at (i ∷ is) → IsHere at i
  head-here at i is l = record { place = l.0; found = l.1 }

  pub tail-lists : (at : ℕ) (i : Placed) (is : List Placed) → Lists at (i ∷ is) → Lists (place_after i) is
  tail-lists at i is l = subst (λ (n : ℕ). Lists n is) (ap (λ (n : ℕ). n + i.insn.len) (sym l.0)) l.2

  one-list : (n at : ℕ) → length code ≤ n + at → Lists at (instructions_from code at)
  one-list zero at enough = let past = none-past at (omega arith) (fetched code at) refl in rw (instructions-none at past.0 past.1) (rw past.1 refl)
  one-list (suc n) at enough = by_found (fetched code at) refl (one-list n)
    where
      by_found : (r : Result Insn CodeEnd) → fetched code at ≡ r
          → ((next : ℕ) → length code ≤ n + next → Lists next (instructions_from code next))
          → Lists at (instructions_from code at)
      by_found (Err end) e more = rw (instructions-none at end e) (rw e refl)
      by_found (Ok i) e more =
          let inside = here-inside at (here at i) (is-here at i e) in
          rw (instructions-found at i e) (refl, e, more (at + i.len) (omega (arith, inside.farther)))

  pub lists-instructions : (at : ℕ) → Lists at (instructions_from code at)
  lists-instructions at = one-list (length code) at (omega arith)

  -- ---- what stands in the code

  pub stands-here : (i : Placed) → HasInstruction code i → IsHere i.place i
  stands-here i s = record { place = refl; found = (found-in (fetched code) 0 (instructions code) i (lists-instructions 0) s).is }

  -- after each the next begins, or they end
  pub stands-next : (i : Placed) → HasInstruction code i → (place_after i ≡ instructions_end code) ⊎ IsPlace code (place_after i)
  stands-next i s = next-in (fetched code) 0 (instructions code) i (lists-instructions 0) s

  pub one-at : (i j : Placed) → HasInstruction code i → HasInstruction code j → i.place ≡ j.place → i ≡ j
  one-at i j s t e = one-in (fetched code) 0 (instructions code) i j (lists-instructions 0) s t e

  pub apart : (i j : Placed) → HasInstruction code i → HasInstruction code j → i.place < j.place → place_after i ≤ j.place
  apart i j s t lt = after-in (fetched code) 0 (instructions code) i j (lists-instructions 0) s t lt

  fetched-long : (at : ℕ) (i : Insn) → fetched code at ≡ Ok i → 1 ≤ i.len
  fetched-long at i h = (IsWithin-decoded code at i (fetched-decoded at i h)).one

  -- all that stand are before the place where they end
  pub before-end : (i : Placed) → HasInstruction code i → i.place < instructions_end code
  before-end i s = before-in (fetched code) fetched-long 0 (instructions code) i (lists-instructions 0) s

  -- ---- the places that are reached by decoding one instruction after another

  unfoldable pub reached-first : IsSuffixAt code 0
  reached-first = record { before = []; whole = refl; ends = refl }

  pub split-at : (at : ℕ) (i : Placed) → (r : IsSuffixAt code at) → IsHere at i
      → instructions code ≡ r.before ++ i ∷ instructions_from code (place_after i)
  split-at at i r h = grind (arith, instructions-found)

  unfoldable pub reached-after : (at : ℕ) (i : Placed) → IsSuffixAt code at → IsHere at i → IsSuffixAt code (place_after i)
  reached-after at i r h = record {
    before = r.before ++ i ∷ [];
    whole = split-at at i r h ∙ sym (append_assoc r.before (i ∷ []) (instructions_from code (place_after i)));
    ends = end-after 0 r.before i ∙ ap (λ (n : ℕ). n + i.insn.len) (r.ends ∙ sym h.place);
  }

  pub stands-at : (at : ℕ) (i : Placed) → IsSuffixAt code at → IsHere at i → HasInstruction code i
  stands-at at i r h =
      subst (λ (is : List Placed). Contains is i) (sym (split-at at i r h))
      (Contains-append_right r.before (i ∷ instructions_from code (place_after i)) i (Contains-first i (instructions_from code (place_after i))))

  -- where no instruction is found they end
  pub ends-at : (at : ℕ) (end : CodeEnd) → (r : IsSuffixAt code at) → fetched code at ≡ Err end → instructions_end code ≡ at
  ends-at at end r h = grind (arith, instructions-none, append-nil)

pub ruleset walking = (instructions-found, instructions-none)
