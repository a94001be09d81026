-- The places of a method's code, and where they come to in code that is laid for it.
use Rattle.std.proofs.Common.{◌≡◌, ℕ, suc, ◌+◌, ◌<◌, ◌≤◌, ◌==◌, inl, inr, ⊎_elim, Bool, true, false, if◌then◌else◌, List, length, map}
use Rattle.std.proofs.Common.{Some, slice_get, refl, sym, ap, ◌∙◌, arith}
use Rattle.std.specs.Prelude.{nat_lt, ◌||◌}
use Rattle.std.proofs.lemmas.Bool.{cases_lt, eqb-true}
use Rattle.std.proofs.lemmas.Bool.Decides.{nat_tests}
use Rattle.std.proofs.lemmas.Option.{slice_get_within}
use Rattle.jc_base.proofs.Lists.{slice_get-some}
use Rattle.jc_decode.specs.declared.insn.Placed.{Placed}
use Rattle.jc_decode.specs.declared.symbols.Item.{Item}
use Rattle.jc_decode.specs.Listing.{listing}
use Rattle.jc_decode.specs.Symbols.{place_of, steps}
use Rattle.jc_decode.proofs.Elements.{Contains-slice_get, slice_get-Contains}
use Rattle.jc_decode.proofs.InstructionLists.{all-are-listed}
use Rattle.jc_control.specs.Laws.{InstructionsArePlaced}
use Rattle.jc_control.specs.Method.{Method}
use Rattle.jc_control.specs.WellFormed.{HasInstruction, IsPlace, IsBoundary, IsWellFormed}
use Rattle.law_renumbered.specs.Symbols.{items_from}
use Rattle.law_renumbered.proofs.Items.{step_of, steps-are, number-at, number-end, number-back}

-- ---- functions that are one to one on some numbers

-- another number above the bound stands for each other one
unfoldable pub spread : (ℕ → Bool) → (ℕ → ℕ) → ℕ → ℕ → ℕ
spread known f bound p = if known p then f p else suc (bound + p)

module _ (known : ℕ → Bool) (f : ℕ → ℕ) (bound : ℕ) where
  pub spread-known : (p : ℕ) → known p ≡ true → spread known f bound p ≡ f p
  unfolding spread
  spread-known p e = by (known p) e
    where
      by : (b : Bool) → b ≡ true → (if b then f p else suc (bound + p)) ≡ f p
      by true e = refl
      by false e = absurd (cc)

  pub spread-one : ((p : ℕ) → known p ≡ true → f p ≤ bound) → ((p q : ℕ) → known p ≡ true → known q ≡ true → f p ≡ f q → p ≡ q)
      → (p q : ℕ) → spread known f bound p ≡ spread known f bound q → p ≡ q
  unfolding spread
  spread-one most one p q e = by (known p) (known q) refl refl e
    where
      by : (a b : Bool) → known p ≡ a → known q ≡ b → (if a then f p else suc (bound + p)) ≡ (if b then f q else suc (bound + q)) → p ≡ q
      by true true x y e = one p q x y e
      by true false x y e = absurd (let le = most p x in omega (arith, e, le))
      by false true x y e = absurd (let le = most q y in omega (arith, e, le))
      by false false x y e = omega (arith, e)

-- ---- the places of a method

module _ (m : Method) (reg : ℕ → ℕ) (placed : InstructionsArePlaced) (formed : IsWellFormed m) where
  abbrev pub insns : List Placed
  insns = listing m.code

  abbrev pub items : List Item
  items = items_from m.code reg insns

  abbrev pub count : ℕ
  count = length insns

  -- the number for which the label of a place stands
  abbrev pub number : ℕ → ℕ
  number l = place_of l items

  abbrev pub known : ℕ → Bool
  known p = nat_lt (number p) count || p == length m.code

  pub steps-made : steps m.code items ≡ map (step_of m.code reg number) insns
  steps-made = steps-are m.code reg items insns

  pub number-of : (k : ℕ) (i : Placed) → slice_get insns k ≡ Some i → number i.place ≡ k
  number-of k i e = number-at m.code reg insns k i e (λ j y there lt. (all-are-listed m.code).rising j k y i there e lt)

  pub number-last : number (length m.code) ≡ count
  number-last = number-end m.code reg insns (all-are-listed m.code).inside

  -- a place and its instruction
  pub record IsAt (p : ℕ) : Type 0 where
    pub instruction : Placed
    pub at : slice_get insns (number p) ≡ Some instruction
    pub there : instruction.place ≡ p
    pub inside : number p < count

  pub of-place : (p : ℕ) → IsPlace m.code p → IsAt p
  of-place p here =
      let i = here.0 in
      let found = slice_get-Contains insns i here.1 in
      let is : number p ≡ found.0 = ap number (sym here.2) ∙ number-of found.0 i found.1 in
      let lt = slice_get_within insns found.0 i found.1 in
      record { instruction = i; at = ap (slice_get insns) is ∙ found.1; there = here.2; inside = omega (arith, is, lt) }

  pub number-most : (p : ℕ) → IsBoundary m.code p → number p ≤ count
  number-most p b = ⊎_elim (λ end. (let e : number p ≡ count = ap number end ∙ number-last in omega (arith, e)))
      (λ here. (let lt = (of-place p here).inside in omega (arith, lt))) b

  pub is-known : (p : ℕ) → IsBoundary m.code p → known p ≡ true
  is-known p b = ⊎_elim (λ end. grind (arith, nat_tests, end)) (λ here. let lt = (of-place p here).inside in grind (arith, nat_tests, lt)) b

  pub known-is : (p : ℕ) → known p ≡ true → IsBoundary m.code p
  known-is p e = by (nat_lt (number p) count) refl (p == length m.code) refl e
    where
      by : (a : Bool) → nat_lt (number p) count ≡ a → (b : Bool) → (p == length m.code) ≡ b → (a || b) ≡ true → IsBoundary m.code p
      by true x b y e =
          let r = number-back m.code reg p insns (grind (arith, nat_tests, x)) in
          inr (r.instruction, Contains-slice_get insns (number p) r.instruction r.at, r.there)
      by false x true y e = inl (eqb-true p (length m.code) y)
      by false x false y e = absurd (cc)

  near : (p : ℕ) → IsBoundary m.code p → p ≤ length m.code
  near p b = ⊎_elim (λ end. omega (arith, end))
      (λ here. (let inside = (all-are-listed m.code).inside here.0 here.1 in let at = here.2 in omega (arith, inside, at))) b

  -- places rise with their numbers
  place-rises : (p q : ℕ) (a : IsAt p) (b : IsAt q) → p < q → number p < number q
  place-rises p q a b lt = elim (cases_lt (number p) (number q)) [
    | inl less ↦ less
    | inr ge ↦ elim (cases_lt (number q) (number p)) [
      | inl more ↦
          let down = (all-are-listed m.code).rising (number q) (number p) b.instruction a.instruction b.at a.at more in
          let x = a.there in
          let y = b.there in
          absurd (omega (arith, down, x, y, lt))
      | inr le ↦
          let same : number p ≡ number q = omega (arith, ge, le) in
          let one : Some a.instruction ≡ Some b.instruction = sym a.at ∙ (ap (slice_get insns) same ∙ b.at) in
          let also : a.instruction ≡ b.instruction = cc in
          let at : p ≡ q = sym a.there ∙ (ap (λ (i : Placed). i.place) also ∙ b.there) in
          absurd (omega (arith, at, lt))
    ]
  ]

  pub number-rises : (p q : ℕ) → IsBoundary m.code p → IsBoundary m.code q → p < q → number p < number q
  number-rises p q (inl end) b lt = (let le = near q b in absurd (omega (arith, end, le, lt)))
  number-rises p q (inr here) (inl end) lt = grind (arith, of-place p here, number-last)
  number-rises p q (inr here) (inr there) lt = place-rises p q (of-place p here) (of-place q there) lt

  -- the place after an instruction has the next number
  pub number-next : (k : ℕ) (i : Placed) → slice_get insns k ≡ Some i → number (i.place + i.insn.len) ≡ suc k
  number-next k i e = ⊎_elim (λ end. ap number end ∙ (number-last ∙ last end)) (λ here. next (of-place after here)) boundary
    where
      after : ℕ
      after = i.place + i.insn.len

      c : HasInstruction m.code i
      c = Contains-slice_get insns k i e

      boundary : IsBoundary m.code after
      boundary = (placed m formed).next i c

      within : k < count
      within = slice_get_within insns k i e

      -- no instruction stands between
      between : (j : ℕ) (y : Placed) → slice_get insns j ≡ Some y → k < j → after ≤ y.place
      between j y at lt =
          (all-are-listed m.code).after i y c (Contains-slice_get insns j y at) ((all-are-listed m.code).rising k j i y e at lt)

      last : after ≡ length m.code → count ≡ suc k
      last end = elim (cases_lt (suc k) count) [
        | inl more ↦
            let y = slice_get-some insns (suc k) more in
            let le = between (suc k) y.0 y.1 (omega arith) in
            let lt = (all-are-listed m.code).inside y.0 (Contains-slice_get insns (suc k) y.0 y.1) in
            absurd (omega (arith, le, lt, end))
        | inr most ↦ (let lt = within in omega (arith, most, lt))
      ]

      next : IsAt after → number after ≡ suc k
      next a =
          let long = (all-are-listed m.code).long i.place i.insn ((all-are-listed m.code).decodes i c) in
          let own : number i.place ≡ k = number-of k i e in
          let up = number-rises i.place after (inr (i, c, refl)) boundary (omega (arith, long)) in
          elim (cases_lt (suc k) (number after)) [
            | inl more ↦
                let less = a.inside in
                let y = slice_get-some insns (suc k) (omega (arith, more, less)) in
                let le = between (suc k) y.0 y.1 (omega arith) in
                let lt = (all-are-listed m.code).rising (suc k) (number after) y.0 a.instruction y.1 a.at more in
                let at = a.there in
                absurd (omega (arith, le, lt, at))
            | inr most ↦ omega (arith, most, up, own)
          ]
