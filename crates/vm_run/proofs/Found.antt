-- The instruction that is found at a place of a code.
use Rattle.std.proofs.Common.{◌≡◌, ◌<◌, ◌≤◌, ◌+◌, ℕ, zero, suc, Bool, true, false, List, [], ◌∷◌, ◌++◌, length, refl, sym, ap}
use Rattle.std.proofs.Common.{◌∙◌, subst, arith, rules, Contains, Option, Some, None, ◌⊎◌, ⊎_elim}
use Rattle.std.specs.Prelude.{find, All, ◌==◌, IsSome, IfSome, slice_get, Ok, ℤ, pos, negsuc, ◌≤ℤ◌, ◌<ℤ◌}
use Rattle.std.proofs.lemmas.Int.{ints}
use Rattle.std.proofs.lemmas.Bool.{false≢true, eqb-true, eq-eqb, ne_eqb}
use Rattle.std.proofs.lemmas.List.Elements.{All-head, All-tail, All-contains_itself, All-weaker}
use Rattle.jc_decode.specs.declared.insn.Insn.{Insn}
use Rattle.jc_decode.specs.declared.insn.Placed.{Placed}
use Rattle.jc_decode.specs.Decoding.{decoded}
use Rattle.jc_decode.specs.Listing.{listing}
use Rattle.jc_control.specs.WellFormed.{HasInstruction, IsPlace}
use Rattle.jc_decode.specs.Laws.{AreListed}
use Rattle.vm_step.specs.Methods.{instruction_at}
use Rattle.vm_step.specs.Settled.{is_there, is_target_place}
use Rattle.vm_act.proofs.Climbing.{find-yes, find-no}

-- ---- the first of a list that passes a test

module _ {X : Type 0} (p : X → Bool) where
  one-or-later : (y x : X) (ys : List X) (b : Bool) → p y ≡ b → (p y ≡ true → y ≡ x) → find p ys ≡ Some x → find p (y ∷ ys) ≡ Some x
  one-or-later y x ys x2 e one rest = grind (arith, find-yes, find-no)

  -- where none but one passes, it is found
  pub only-found : (xs : List X) (x : X) → All (λ y. p y ≡ true → y ≡ x) xs → Contains xs x → p x ≡ true → find p xs ≡ Some x
  only-found [] x one (k, lt, is) h = absurd (omega arith)
  only-found (y ∷ ys) x one (zero, lt, is) h = find-yes p y ys (ap p is ∙ h) ∙ ap Some is
  only-found (y ∷ ys) x one (suc k, lt, is) h =
      one-or-later y x ys (p y) refl (All-head (λ z. p z ≡ true → z ≡ x) y ys one)
      (only-found ys x (All-tail (λ z. p z ≡ true → z ≡ x) y ys one) (k, omega arith, is) h)

  pub none-found : (xs : List X) → All (λ y. p y ≡ false) xs → find p xs ≡ None
  none-found [] none = refl
  none-found (y ∷ ys) none = find-no p y ys (All-head (λ z. p z ≡ false) y ys none) ∙ none-found ys (All-tail (λ z. p z ≡ false) y ys none)

  pub Passes : List X → X → Type 0
  Passes xs x = Contains xs x × (p x ≡ true)

  later-passes : (y x : X) (ys : List X) → Passes ys x → Passes (y ∷ ys) x
  unfolding Passes
  later-passes y x ys ((k, lt, is), h) = ((suc k, omega arith, is), h)

  here-or-later : (y x : X) (ys : List X) (b : Bool) → p y ≡ b → find p (y ∷ ys) ≡ Some x → (find p ys ≡ Some x → Passes ys x)
      → Passes (y ∷ ys) x
  unfolding Passes
  here-or-later y x ys true h e rest = grind (arith, find-yes)
  here-or-later y x ys false h e rest = later-passes y x ys (rest (sym (find-no p y ys h) ∙ e))

  -- what is found stands in the list and passes
  pub found-passes : (xs : List X) (x : X) → find p xs ≡ Some x → Passes xs x
  found-passes [] x e = absurd (cc)
  found-passes (y ∷ ys) x e = here-or-later y x ys (p y) refl e (found-passes ys x)

  pub found-in : (xs : List X) (x : X) → find p xs ≡ Some x → Contains xs x × (p x ≡ true)
  unfolding Passes
  found-in xs x e = found-passes xs x e

-- ---- instructions

-- where an instruction is decoded at a place, it is what was read there
abbrev pub ReadsAt : List ℕ → ℕ → Option Insn → Type 0
ReadsAt code place read = (i : Insn) → decoded code place ≡ Ok i → read ≡ Some i

module _ (code : List ℕ) (listed : AreListed code) where
  at-place : (place : ℕ) (x : Placed) → HasInstruction code x → x.place ≡ place → instruction_at code place ≡ Some x
  unfolding instruction_at
  at-place place x there is =
      only-found (λ (i : Placed). i.place == place) (listing code) x
      (All-weaker (HasInstruction code) (λ y. (y.place == place) ≡ true → y ≡ x)
      (λ y h e. listed.one y x h there (eqb-true y.place place e ∙ sym is)) (listing code) (All-contains_itself (listing code)))
      there
      (eq-eqb x.place place is)

  -- the instruction that is decoded at the place of one
  pub placed-there : (place : ℕ) (insn : Insn) → IsPlace code place → decoded code place ≡ Ok insn
      → instruction_at code place ≡ Some (record { place = place; insn = insn })
  placed-there place insn (x, there, is) d = grind (arith, at-place place x there is)

  -- what is read at the place of an instruction is the one that is decoded there
  known-decoded : (place : ℕ) (insn : Insn) → IsPlace code place → ReadsAt code place (Some insn) → decoded code place ≡ Ok insn
  known-decoded place insn (x, there, is) reads = grind (arith)

  pub known-there : (place : ℕ) (insn : Insn) → IsPlace code place → ReadsAt code place (Some insn)
      → instruction_at code place ≡ Some (record { place = place; insn = insn })
  known-there place insn there reads = placed-there place insn there (known-decoded place insn there reads)

  pub known-ends : (place : ℕ) (insn : Insn) → IsPlace code place → ReadsAt code place (Some insn) → place + insn.len ≤ length code
  known-ends place insn there reads = listed.reaches place insn (known-decoded place insn there reads)

  pub known-reads : (place : ℕ) → IsPlace code place → ReadsAt code place None → ⊥
  known-reads place (x, there, is) reads =
      let none : None ≡ Some x.insn = reads x.insn (ap (decoded code) (sym is) ∙ listed.decodes x there) in absurd (cc)

  pub nothing-there : (place : ℕ) → (IsPlace code place → ⊥) → instruction_at code place ≡ None
  unfolding instruction_at
  nothing-there place none =
      none-found (λ (i : Placed). i.place == place) (listing code)
      (All-weaker (HasInstruction code) (λ y. (y.place == place) ≡ false) (λ y h. ne_eqb y.place place (λ e. none (y, h, e))) (listing code)
      (All-contains_itself (listing code)))

-- an instruction that is found is one of the code
pub found-there : (code : List ℕ) (place : ℕ) (x : Placed) → instruction_at code place ≡ Some x → IsPlace code place
unfolding instruction_at
found-there code place x e = grind (arith, found-in, eqb-true)

there-is : (o : Option Placed) → IsSome o → (x : Placed) × (o ≡ Some x)
there-is x h = grind (arith)

pub some-there : (code : List ℕ) (place : ℕ) → IsSome (instruction_at code place) → IsPlace code place
some-there code place h = let t = there-is (instruction_at code place) h in found-there code place t.0 t.1

-- whether one is there, by a flag
pub flag-tells : (code : List ℕ) (place : ℕ) (listed : AreListed code) (b : Bool) → (b ≡ true → IsPlace code place)
    → (IsPlace code place → b ≡ true)
    → b ≡ is_there (instruction_at code place)
flag-tells code place listed true to from = let h = to refl in sym (ap is_there (at-place code listed place h.0 h.1 h.2))
flag-tells code place listed false to from = sym (ap is_there (nothing-there code listed place (λ h. false≢true (from h))))

-- an instruction that is found begins in the code
pub target-range : (code : List ℕ) (listed : AreListed code) (t : ℤ) → is_target_place code t ≡ true → length code ≤ 32767 → (pos 0 ≤ℤ t)
    × (t <ℤ pos 65536)
target-range code listed (negsuc n) h short = absurd (false≢true h)
target-range code listed (pos p) h short =
    let inside = in-code code listed p (instruction_at code p) refl h in (omega (arith, ints), omega (arith, ints)) where
      in-code : (code : List ℕ) → AreListed code → (p : ℕ) (o : Option Placed) → instruction_at code p ≡ o
          → is_there (instruction_at code p) ≡ true → p < length code
      in-code code listed p None e h = absurd (false≢true (sym (ap is_there e) ∙ h))
      in-code code listed p (Some x) e h = let f = found-there code p x e in omega (arith, listed.inside f.0 f.1, f.2)

-- what lies before the code or far beyond it is no target
pub no-target : (code : List ℕ) (listed : AreListed code) (t : ℤ) → length code ≤ 32767 → (t <ℤ pos 0) ⊎ (pos 65536 ≤ℤ t)
    → false ≡ is_target_place code t
no-target code listed t short out = go (is_target_place code t) refl where
  go : (b : Bool) → is_target_place code t ≡ b → false ≡ is_target_place code t
  go false e = sym e
  go true e = let r = target-range code listed t e short in absurd (⊎_elim (λ l. omega (arith, ints)) (λ l. omega (arith, ints)) out)

-- one more method's flags
pub flags-more : (P : ℕ → List Bool → Type 0) (xs : List (List Bool)) (x : List Bool) → ((n : ℕ) → IfSome (slice_get xs n) (P n))
    → P (length xs) x
    → (n : ℕ) → IfSome (slice_get (xs ++ x ∷ []) n) (P n)
flags-more P [] x h last zero = last
flags-more P [] x h last (suc n) = search rules
flags-more P (y ∷ ys) x h last zero = h 0
flags-more P (y ∷ ys) x h last (suc n) = flags-more (λ k. P (suc k)) ys x (λ k. h (suc k)) last n

pub code-short : (bytes code : List ℕ) → bytes ≡ code → length bytes ≤ 32767 → length code ≤ 32767
code-short bytes code e h = subst (λ (bs : List ℕ). length bs ≤ 32767) e h
