-- Flags as the set of the flagged places.
use Rattle.std.proofs.Common.{◌≡◌, ◌<◌, ◌⊎◌, ⊎_elim, ℕ, Bool, true, false, List, [], ◌∷◌, ◌++◌, length, sym}
use Rattle.std.proofs.Common.{ap, ◌∙◌, subst, arith}
use Rattle.std.specs.Prelude.{replicate}
use Rattle.std.proofs.Math.ListN.{set}
use Rattle.std.proofs.lemmas.Bool.{cases_eq, cases_lt, false≢true}
use Rattle.std.proofs.lemmas.List.{get_or-replicate, get_or_past, length-replicate, get_or-set_same, get_or-set_other}
use Rattle.std.proofs.lemmas.List.Elements.{Contains-append_left, Contains-push, Contains-push_cases}
use Rattle.jc_decode.specs.declared.insn.Placed.{Placed}
use Rattle.jc_control.specs.Flags.{flag, IsFlagged, Marks}
use Rattle.jc_decode.specs.Places.{BeginsIn}

pub flag-none : (n p : ℕ) → flag (replicate n false) p ≡ false
flag-none n p = grind (arith, cases_lt, get_or-replicate, get_or_past, length-replicate)

-- only what is in the list is flagged
pub flagged-inside : (fs : List Bool) (p : ℕ) → IsFlagged fs p → p < length fs
flagged-inside fs p h = grind (arith, cases_lt, length, false≢true, get_or_past)

pub flag-here : (fs : List Bool) (p : ℕ) → p < length fs → IsFlagged (set fs p true) p
flag-here fs p inside = get_or-set_same fs p true false inside

pub flag-kept : (fs : List Bool) (p q : ℕ) → p < length fs → IsFlagged fs q → IsFlagged (set fs p true) q
flag-kept fs p q inside h = grind (arith, cases_eq, set, flag-here, get_or-set_other)

pub flag-only : (fs : List Bool) (p q : ℕ) → IsFlagged (set fs p true) q → IsFlagged fs q ⊎ (q ≡ p)
flag-only fs p q h = grind (arith, cases_eq, get_or-set_other)

-- ---- the places of instructions

pub marks-more : (is : List Placed) (i : Placed) (fs : List Bool) → i.place < length fs → Marks (BeginsIn is) fs
    → Marks (BeginsIn (is ++ i ∷ [])) (set fs i.place true)
marks-more is i fs inside m p = (
  λ e. ⊎_elim (λ before. let b = (m p).0 before in (b.0, Contains-append_left is (i ∷ []) b.0 b.1, b.2)) (λ here. (i, Contains-push is i, sym here))
      (flag-only fs i.place p e),
  λ b. ⊎_elim (λ before. flag-kept fs i.place p inside ((m p).1 (b.0, before, b.2)))
      (λ here. let same : i.place ≡ p = ap (λ (j : Placed). j.place) here ∙ b.2 in
      subst (IsFlagged (set fs i.place true)) same (flag-here fs i.place inside))
      (Contains-push_cases is i b.0 b.1),
)
