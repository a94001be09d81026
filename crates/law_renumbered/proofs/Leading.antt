-- Where the instructions of the laid code lead, and the keys of their cases.
use Rattle.std.proofs.Common.{◌≡◌, ℕ, suc, Bool, true, false, if◌then◌else◌, List, [], ◌∷◌, map, All}
use Rattle.std.proofs.Common.{refl, sym, ap, ◌∙◌, arith}
use Rattle.std.specs.Prelude.{ℤ, pos, ◌||◌, slice_index_or}
use Rattle.jc_decode.specs.declared.insn.Case.{Case}
use Rattle.jc_decode.specs.declared.insn.Placed.{Placed}
use Rattle.jc_decode.specs.Cases.{cases, is_switch}
use Rattle.jc_decode.specs.Listing.{is_branch, target, targets}
use Rattle.jc_control.specs.WellFormed.{IsPlace, IsTargetPlace}
use Rattle.vm_step.specs.Settled.{place_number}
use Rattle.law_renumbered.specs.Symbols.{labels_of}
use Rattle.law_renumbered.proofs.Items.{targets_at, keys_at}
use Rattle.jc_decode.proofs.Tables.{no-cases}

-- what is neither branch nor switch leads nowhere
no-targets : (code : List ℕ) (i : Placed) → is_branch i.insn.op ≡ false → is_switch i.insn.op ≡ false → targets code i ≡ []
unfolding targets
no-targets code i branch switch = by (is_branch i.insn.op) (is_switch i.insn.op) branch switch
  where
    by : (a b : Bool) → a ≡ false → b ≡ false
        → (if a || b then target i.place i.insn.x ∷ map (λ c. target i.place c.offset) (cases code i.place i.insn) else []) ≡ []
    by true b x y = absurd (cc)
    by false true x y = absurd (cc)
    by false false x y = refl

-- a branch has one target
one-target : (code : List ℕ) (i : Placed) → is_branch i.insn.op ≡ true → is_switch i.insn.op ≡ false → targets code i ≡ target i.place i.insn.x ∷ []
unfolding targets
one-target code i branch switch = by (is_branch i.insn.op) (is_switch i.insn.op) branch (cases code i.place i.insn) (no-cases code i.place i.insn switch)
  where
    by : (a b : Bool) → a ≡ true → (cs : List Case) → cs ≡ []
        → (if a || b then target i.place i.insn.x ∷ map (λ c. target i.place c.offset) cs else []) ≡ target i.place i.insn.x ∷ []
    by true b x cs none = ap (λ (ds : List Case). target i.place i.insn.x ∷ map (λ c. target i.place c.offset) ds) none
    by false b x cs none = absurd (cc)

module _ (code : List ℕ) (reg : ℕ → ℕ) (number : ℕ → ℕ) (place moved : ℕ → ℕ)
    (come : (p : ℕ) → IsPlace code p → moved p ≡ place (number p)) where
  abbrev there : ℤ → ℤ
  there t = pos (moved (place_number t))

  comes-there : (t : ℤ) → IsTargetPlace code t → pos (place (number (place_number t))) ≡ there t
  comes-there x here = grind (arith)

  all-come : (ts : List ℤ) → All (IsTargetPlace code) ts → map (λ n. pos (place n)) (map number (map place_number ts)) ≡ map there ts
  all-come [] all = refl
  all-come (t ∷ ts) all =
      ap (λ u. u ∷ map (λ n. pos (place n)) (map number (map place_number ts))) (comes-there t (all 0 t (omega arith)))
      ∙ ap (λ us. there t ∷ us) (all-come ts (λ k d lt. all (suc k) d (omega (arith, lt))))

  one-comes : (ts : List ℤ) (t : ℤ) → ts ≡ t ∷ [] → All (IsTargetPlace code) ts
      → map (λ n. pos (place n)) (number (slice_index_or (map place_number ts) 0 0) ∷ []) ≡ map there ts
  one-comes ts t is all = grind (arith, map, comes-there)

  -- the places of a step's targets are those to which the instruction's own come
  pub targets-come : (i : Placed) → All (IsTargetPlace code) (targets code i)
      → map (λ n. pos (place n)) (targets_at code reg number i) ≡ map there (targets code i)
  targets-come i all = by (is_switch i.insn.op) (is_branch i.insn.op) refl refl
    where
      by : (a b : Bool) → is_switch i.insn.op ≡ a → is_branch i.insn.op ≡ b
          → map (λ n. pos (place n))
          (if a then map number (labels_of code i) else if b then number (slice_index_or (labels_of code i) 0 0) ∷ [] else [])
          ≡ map there (targets code i)
      by true b x y = all-come (targets code i) all
      by false true x y = one-comes (targets code i) (target i.place i.insn.x) (one-target code i y x) all
      by false false x y = sym (ap (map there) (no-targets code i y x))

  -- and the keys of a step are those of the instruction
  pub keys-are : (i : Placed) → keys_at code reg i ≡ map (λ c. c.key) (cases code i.place i.insn)
  keys-are i = by (is_switch i.insn.op) refl
    where
      by : (a : Bool) → is_switch i.insn.op ≡ a
          → (if a then map (λ c. c.key) (cases code i.place i.insn) else []) ≡ map (λ c. c.key) (cases code i.place i.insn)
      by true x = refl
      by false x = sym (ap (λ (cs : List Case). map (λ c. c.key) cs) (no-cases code i.place i.insn x))
