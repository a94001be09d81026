-- The steps of a method's code with a label at each place, and the numbers for which these labels stand.
use Rattle.std.proofs.Common.{◌≡◌, ◌≢◌, ℕ, zero, suc, ◌<◌, ◌==◌, Bool, true, false, if◌then◌else◌, List, [], ◌∷◌, length, map}
use Rattle.std.proofs.Common.{Some, slice_get, Contains, refl, ap, ◌∙◌, arith}
use Rattle.std.specs.Prelude.{slice_index_or, ℤ}
use Rattle.std.proofs.lemmas.Bool.{eqb-true}
use Rattle.std.proofs.lemmas.Bool.Decides.{nat_tests}
use Rattle.jc_decode.specs.declared.insn.Placed.{Placed}
use Rattle.jc_decode.specs.declared.symbols.Item.{Item}
use Rattle.jc_decode.specs.declared.symbols.Item.TheVariants.{Plain, Branch, Switch}
use Rattle.jc_decode.specs.Cases.{cases, is_switch}
use Rattle.jc_decode.specs.Forms.{wide}
use Rattle.jc_decode.specs.Listing.{is_branch}
use Rattle.jc_decode.specs.Symbols.{Step, jump, place_of, steps_in}
use Rattle.jc_decode.proofs.Elements.{Contains-first, Contains-later}
use Rattle.law_renumbered.specs.Instruction.{renumbered_instruction}
use Rattle.law_renumbered.specs.Symbols.{item_of, items_from, labels_of}
use Rattle.law_renumbered.proofs.Registers.{stated}

module _ (code : List ℕ) (reg : ℕ → ℕ) where
  -- ---- steps

  abbrev pub targets_at : (ℕ → ℕ) → Placed → List ℕ
  targets_at number i =
      if is_switch i.insn.op then map number (labels_of code i)
      else if is_branch i.insn.op then number (slice_index_or (labels_of code i) 0 0) ∷ []
      else []

  abbrev pub keys_at : Placed → List ℤ
  keys_at i = if is_switch i.insn.op then map (λ c. c.key) (cases code i.place i.insn) else []

  -- the step of an instruction, where labels stand for these numbers
  abbrev pub step_of : (ℕ → ℕ) → Placed → Step
  step_of number i = record { insn = stated reg i.insn; targets = targets_at number i; keys = keys_at i }

  step-of : (all rest : List Item) (i : Placed)
      → steps_in code all (item_of code reg i ∷ rest) ≡ step_of (λ l. place_of l all) i ∷ steps_in code all rest
  step-of all rest i = by (is_switch i.insn.op) (is_branch i.insn.op)
    where
      by : (a b : Bool)
          → steps_in code all
          ((if a then Switch i.insn i.place (labels_of code i)
          else if b then Branch (wide i.insn.op) (slice_index_or (labels_of code i) 0 0)
          else Plain (renumbered_instruction reg i.insn)) ∷ rest)
          ≡ record {
            insn = if a then i.insn else if b then jump (wide i.insn.op) else renumbered_instruction reg i.insn;
            targets =
                if a then map (λ l. place_of l all) (labels_of code i)
                else if b then place_of (slice_index_or (labels_of code i) 0 0) all ∷ []
                else [];
            keys = if a then map (λ c. c.key) (cases code i.place i.insn) else [];
          } ∷ steps_in code all rest
      by true b = refl
      by false true = refl
      by false false = refl

  pub steps-are : (all : List Item) (is : List Placed) → steps_in code all (items_from code reg is) ≡ map (step_of (λ l. place_of l all)) is
  steps-are all [] = refl
  steps-are all (i ∷ is) = step-of all (items_from code reg is) i ∙ ap (λ ss. step_of (λ l. place_of l all) i ∷ ss) (steps-are all is)

  -- ---- labels

  pub one-behind : (l : ℕ) (i : Placed) (rest : List Item) → place_of l (item_of code reg i ∷ rest) ≡ suc (place_of l rest)
  one-behind l i rest = by (is_switch i.insn.op) (is_branch i.insn.op)
    where
      by : (a b : Bool)
          → place_of l
          ((if a then Switch i.insn i.place (labels_of code i)
          else if b then Branch (wide i.insn.op) (slice_index_or (labels_of code i) 0 0)
          else Plain (renumbered_instruction reg i.insn)) ∷ rest)
          ≡ suc (place_of l rest)
      by true b = refl
      by false true = refl
      by false false = refl

  skipped : (l : ℕ) (i : Placed) (rest : List Item) (b : Bool) → (i.place == l) ≡ b → i.place ≢ l
      → (if b then 0 else place_of l (item_of code reg i ∷ rest)) ≡ suc (place_of l rest)
  skipped l i rest x e other = grind (arith, eqb-true, one-behind)

  met : (l p n : ℕ) (b : Bool) → (p == l) ≡ b → p ≡ l → (if b then 0 else n) ≡ 0
  met l p n x e same = grind (arith, nat_tests)

  -- the label of an instruction stands for the number of the instruction, where those before stand at lesser places
  pub number-at : (is : List Placed) (k : ℕ) (i : Placed) → slice_get is k ≡ Some i
      → ((j : ℕ) (y : Placed) → slice_get is j ≡ Some y → j < k → y.place < i.place) → place_of i.place (items_from code reg is) ≡ k
  number-at [] k i e rises = absurd (cc)
  number-at (x ∷ xs) zero i e rises = grind (arith, met)
  number-at (x ∷ xs) (suc k) i e rises =
      let first = rises 0 x refl (omega arith) in
      skipped i.place x (items_from code reg xs) (x.place == i.place) refl (λ same. omega (arith, first, same))
      ∙ ap suc (number-at xs k i e (λ j y there lt. rises (suc j) y there (omega (arith, lt))))

  either-way : (n : ℕ) (b : Bool) → (if b then n else n) ≡ n
  either-way n x = grind (arith)

  -- the label of the end stands for the number of all instructions
  pub number-end : (is : List Placed) → ((y : Placed) → Contains is y → y.place < length code) → place_of (length code) (items_from code reg is) ≡ length is
  number-end [] inside = either-way 0 (length code == length code)
  number-end (x ∷ xs) inside =
      let first = inside x (Contains-first x xs) in
      skipped (length code) x (items_from code reg xs) (x.place == length code) refl (λ same. omega (arith, first, same))
      ∙ ap suc (number-end xs (λ y there. inside y (Contains-later x xs y there)))

  -- a label that stands for the number of an instruction is that of its place
  pub record IsLabelled (is : List Placed) (l n : ℕ) : Type 0 where
    pub instruction : Placed
    pub at : slice_get is n ≡ Some instruction
    pub there : instruction.place ≡ l

  pub number-back : (l : ℕ) (is : List Placed) → place_of l (items_from code reg is) < length is → IsLabelled is l (place_of l (items_from code reg is))
  number-back l [] lt = absurd (omega (arith, lt))
  number-back l (x ∷ xs) lt = by (x.place == l) refl (place_of l (items_from code reg (x ∷ xs))) refl lt (number-back l xs)
    where
      by : (b : Bool) → (x.place == l) ≡ b → (n : ℕ) → n ≡ (if b then 0 else place_of l (item_of code reg x ∷ items_from code reg xs)) → n < length (x ∷ xs)
          → (place_of l (items_from code reg xs) < length xs → IsLabelled xs l (place_of l (items_from code reg xs))) → IsLabelled (x ∷ xs) l n
      by true e n is less rest =
          record { instruction = x; at = ap (slice_get (x ∷ xs)) is; there = eqb-true x.place l e }
      by false e n is less rest =
          let later : n ≡ suc (place_of l (items_from code reg xs)) = is ∙ one-behind l x (items_from code reg xs) in
          let r = rest (omega (arith, later, less)) in
          record { instruction = r.instruction; at = ap (slice_get (x ∷ xs)) later ∙ r.at; there = r.there }
