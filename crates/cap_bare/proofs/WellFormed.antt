-- The first flaw, found as the code is walked; and flaws decide whether code is well formed.
use Rattle.std.proofs.Common.{◌≡◌, sym, subst, ℕ, ◌+◌, ◌<◌, ◌≤◌, ◌⊎◌, inl, inr, ⊎_elim, Ok, Err, List, length, refl, arith}
use Rattle.std.proofs.Common.{Contains, All}
use Rattle.std.specs.Prelude.{ℤ}
use Rattle.std.proofs.lemmas.List.Elements.{All-contains, All-push, All-nil, Contains-append_cases}
use Rattle.jc_decode.specs.declared.insn.Insn.{Insn}
use Rattle.jc_decode.specs.declared.insn.Placed.{Placed}
use Rattle.jc_decode.specs.declared.insn.CodeEnd.{CodeEnd}
use Rattle.jc_decode.specs.Listing.{targets}
use Rattle.jc_decode.proofs.InstructionLists.{found-in}
use Rattle.cap_bare.specs.declared.fault.BareFault.{BareFault}
use Rattle.cap_bare.specs.declared.fault.BareKind.TheVariants.{Code, BadTarget}
use Rattle.cap_bare.specs.Code.{fetched, instructions_from, instructions_end, HasInstruction, IsTargetPlace, IsWellFormed, IsFlaw, flaw_end, flaw_target}
use Rattle.cap_bare.specs.Code.{IsFirstFlaw, IsFlawKind, fault}
use Rattle.cap_bare.specs.Window.{IsSuffixAt}
use Rattle.cap_bare.proofs.Instructions.{here, is-here, lists-instructions, one-at, reached-first, reached-after, stands-at, ends-at, before-end, none-past}
use Rattle.cap_bare.proofs.Places.{leads-one}

module _ (code : List ℕ) where
  abbrev Leads : Placed → Type 0
  Leads i = All (IsTargetPlace code) (targets code i)

  -- a place is reached, and the instructions before it lead to places
  pub record IsClear (at : ℕ) : Type 0 where
    pub reached : IsSuffixAt code at
    pub leads : All Leads reached.before

  pub clear-first : IsClear 0
  unfolding reached-first
  clear-first = record { reached = reached-first code; leads = All-nil Leads }

  pub clear-after : (at : ℕ) (i : Insn) → IsClear at → fetched code at ≡ Ok i → Leads (here at i) → IsClear (at + i.len)
  unfolding reached-after
  clear-after at i c f leads = record {
    reached = reached-after code at (here at i) c.reached (is-here code at i f);
    leads = All-push Leads c.reached.before (here at i) c.leads leads;
  }

  -- what stands leads to places, or is not before this one
  either : (at : ℕ) (i : Placed) → IsClear at → HasInstruction code i → Leads i ⊎ (at ≤ i.place)
  either at i c s =
      ⊎_elim (λ before. inl (All-contains Leads c.reached.before i c.leads before))
      (λ later. inr (found-in (fetched code) at (instructions_from code at) i (lists-instructions code at) later).from)
      (Contains-append_cases c.reached.before (instructions_from code at) i (subst (λ (is : List Placed). Contains is i) c.reached.whole s))

  astray : (i : Placed) (t : ℤ) → Leads i → Contains (targets code i) t → ¬ (IsTargetPlace code t) → ⊥
  astray i t leads c away = away (All-contains (IsTargetPlace code) (targets code i) t leads c)

  -- no flaw is before it
  pub clear-least : (at : ℕ) → IsClear at → at ≤ instructions_end code → (f : BareFault) → IsFlaw code f → at ≤ f.place
  clear-least at c le _ (flaw_end end ne e) = le
  clear-least at c le _ (flaw_target i t s leads away) = ⊎_elim (λ h. absurd (astray i t h leads away)) (λ h. h) (either at i c s)

  -- the code ends, or an instruction is missing, or one leads astray
  pub clear-formed : (at : ℕ) → IsClear at → length code ≤ at → at ≤ length code → IsWellFormed code
  clear-formed at c past le =
      let none = none-past code at past (fetched code at) refl in
      let ends = ends-at code at none.0 c.reached none.1 in
      record {
        ends = omega (arith, ends);
        leads = λ i s. ⊎_elim (λ h. h) (λ h. let before = before-end code i s in absurd (omega (arith, ends))) (either at i c s);
      }

  pub clear-missing : (at : ℕ) (end : CodeEnd) → IsClear at → at < length code → fetched code at ≡ Err end
      → IsFirstFlaw code (fault at (Code end))
  clear-missing at end c lt e =
      let ends = ends-at code at end c.reached e in
      let flaw : IsFlaw code (fault (instructions_end code) (Code end)) =
      flaw_end end (λ same. omega (arith, ends, same)) (subst (λ (n : ℕ). fetched code n ≡ Err end) (sym ends) e) in
      record {
        flaw = subst (λ (n : ℕ). IsFlaw code (fault n (Code end))) ends flaw;
        least = clear-least at c (omega (arith, ends));
      }

  pub clear-astray : (at : ℕ) (i : Insn) (t : ℤ) → IsClear at → fetched code at ≡ Ok i
      → Contains (targets code (here at i)) t → ¬ (IsTargetPlace code t)
      → IsFirstFlaw code (fault at (BadTarget t))
  clear-astray at i t c f leads away =
      let stands = stands-at code at (here at i) c.reached (is-here code at i f) in
      let before = before-end code (here at i) stands in
      record { flaw = flaw_target (here at i) t stands leads away; least = clear-least at c (omega arith) }

  -- what is well formed has no flaw
  pub flaw-not : (f : BareFault) → IsWellFormed code → IsFlaw code f → ⊥
  flaw-not x w x2 = grind (arith, astray)

  -- two flaws of one place are one
  flaw-one : (f g : BareFault) → IsFlaw code f → IsFlaw code g → f.place ≡ g.place → f ≡ g
  flaw-one _ _ (flaw_end e ne h) (flaw_end d me k) same = cc
  flaw-one _ _ (flaw_end e ne h) (flaw_target j t s l away) same = let before = before-end code j s in absurd (omega arith)
  flaw-one _ _ (flaw_target i t s l away) (flaw_end d me k) same = let before = before-end code i s in absurd (omega arith)
  flaw-one _ _ (flaw_target i t s l away) (flaw_target j u k m far) same =
      let one : i ≡ j = one-at code i j s k same in
      let first = leads-one code i t s l in
      let second = leads-one code j u k m in cc (one, first.1, second.1)

  -- so the first flaw is one
  pub first-one : (f g : BareFault) → IsFirstFlaw code f → IsFirstFlaw code g → f ≡ g
  first-one f g h k = grind (arith, flaw-one)

  pub flaw-kind : (f : BareFault) → IsFlaw code f → IsFlawKind f.kind
  flaw-kind x x2 = grind (arith)
