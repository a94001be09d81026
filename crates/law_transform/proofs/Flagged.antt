-- The places of a code as flags, for a control flow that is told of and not computed.
use Rattle.std.proofs.Common.{◌≡◌, ℕ, zero, suc, Bool, true, false, inl, inr, List, [], ◌∷◌, refl, sym, ap, subst, ◌∙◌, arith}
use Rattle.std.specs.Prelude.{Contains}
use Rattle.std.proofs.lemmas.Bool.{cases_eq, both_ways}
use Rattle.std.proofs.lemmas.List.{get_or_past}
use Rattle.std.proofs.lemmas.Option.{none-some}
use Rattle.jc_decode.specs.declared.insn.Placed.{Placed}
use Rattle.jc_decode.specs.Listing.{listing}
use Rattle.jc_decode.proofs.Elements.{Contains-first, Contains-later, Contains-either, nothing-in}
use Rattle.jc_control.specs.Flags.{flag, Marks}
use Rattle.jc_control.specs.Listing.{Listed, IsListingOf}
use Rattle.jc_control.specs.WellFormed.{IsPlace}

-- ---- a flag more

abbrev mark : ℕ → List Bool → List Bool
mark zero [] = true ∷ []
mark zero (f ∷ fs) = true ∷ fs
mark (suc n) [] = false ∷ mark n []
mark (suc n) (f ∷ fs) = f ∷ mark n fs

unmarked : (p : ℕ) → flag [] p ≡ false
unmarked p = get_or_past [] p false (omega arith)

mark-here : (n : ℕ) (fs : List Bool) → flag (mark n fs) n ≡ true
mark-here zero [] = refl
mark-here zero (f ∷ fs) = refl
mark-here (suc n) [] = mark-here n []
mark-here (suc n) (f ∷ fs) = mark-here n fs

mark-other : (n p : ℕ) (fs : List Bool) → (n ≡ p → ⊥) → flag (mark n fs) p ≡ flag fs p
mark-other zero zero fs other = absurd (other refl)
mark-other zero (suc p) [] other = unmarked p ∙ sym (unmarked (suc p))
mark-other zero (suc p) (f ∷ fs) other = refl
mark-other (suc n) zero [] other = refl
mark-other (suc n) zero (f ∷ fs) other = refl
mark-other (suc n) (suc p) [] other = mark-other n p [] (λ e. other (ap suc e)) ∙ unmarked p ∙ sym (unmarked (suc p))
mark-other (suc n) (suc p) (f ∷ fs) other = mark-other n p fs (λ e. other (ap suc e))

-- ---- the flags of instructions

abbrev flags : List Placed → List Bool
flags [] = []
flags (i ∷ is) = mark i.place (flags is)

flagged : (is : List Placed) (p : ℕ) → flag (flags is) p ≡ true → (i : Placed) × Contains is i × (i.place ≡ p)
flagged [] p e = absurd (both_ways (flag [] p) (unmarked p) e)
flagged (i ∷ is) p e = elim (cases_eq i.place p) [
  | inl same ↦ (i, Contains-first i is, same)
  | inr other ↦
      let found = flagged is p (sym (mark-other i.place p (flags is) other) ∙ e) in
      (found.0, Contains-later i is found.0 found.1, found.2)
]

standing : (is : List Placed) (p : ℕ) (i : Placed) → Contains is i → i.place ≡ p → flag (flags is) p ≡ true
standing [] p i c e = absurd (nothing-in i c)
standing (j ∷ js) p i c e = elim (cases_eq j.place p) [
  | inl same ↦ subst (λ n. flag (mark n (flags js)) p ≡ true) (sym same) (mark-here p (flags js))
  | inr other ↦ mark-other j.place p (flags js) other ∙ elim (Contains-either j js i c) [
    | inl here ↦ absurd (other (ap (λ (x : Placed). x.place) here ∙ e))
    | inr later ↦ standing js p i later e
  ]
]

places-flagged : (code : List ℕ) → Marks (IsPlace code) (flags (listing code))
places-flagged code p = (flagged (listing code) p, λ x. standing (listing code) p x.0 x.1 x.2)

-- ---- a listing that holds no instruction

abbrev pub bare : List ℕ → Listed
bare code = record { begins = flags (listing code); insns = [] }

pub bare-listing : (code : List ℕ) → IsListingOf code (bare code)
bare-listing code = grind (arith, places-flagged, none-some, get_or_past)
