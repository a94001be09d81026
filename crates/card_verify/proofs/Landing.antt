-- A walk comes to a place with a stack, which may stand there or not.
use Rattle.std.proofs.Common.{◌≡◌, ◌≢◌, ℕ, zero, suc, ◌<◌, ◌≤◌, ◌⊎◌, inl, inr, ⊎_elim, Bool, true, false, ◌==◌}
use Rattle.std.proofs.Common.{if◌then◌else◌, List, [], ◌∷◌, length, set, MatchBool, refl, sym, ◌∙◌, ap, subst, arith}
use Rattle.std.proofs.lemmas.Bool.{false≢true}
use Rattle.jc_base.specs.declared.ty.Ty.{Ty}
use Rattle.jc_base.specs.declared.ty.Ty.TheVariants.{Class}
use Rattle.jc_ops.specs.declared.fault.RuleFault.TheVariants.{Overflow}
use Rattle.jc_control.specs.Method.{Method}
use Rattle.jc_rules.specs.Stack.{cells}
use Rattle.jc_rules.proofs.Stacks.{length-cells}
use Rattle.card_typing.specs.declared.fault.CardKind.TheVariants.{Rule, StackAtTarget, HandlerEntered}
use Rattle.card_typing.specs.Place.{IsEntry, IsFallenInto, CatchesAt}
use Rattle.card_typing.specs.Met.{Arrives, arrives_falling, arrives_empty, arrives_caught, arrives_full}
use Rattle.card_typing.specs.Refusal.{wrong_entry, wrong_room, wrong_mark}
use Rattle.card_verify.specs.declared.verify.Verifier.{Verifier}
use Rattle.card_verify.specs.declared.pass.Arrival.{Arrival}
use Rattle.card_verify.specs.Verifier.{method, world_of}
use Rattle.card_verify.specs.Walk.{IsLanded, IsMislanded, IsPut, IsBlocked, IsShared, left}

pub no-cells : (stack : List Ty) → cells stack 0 ≡ []
unfolding cells
no-cells stack = refl

pub some-cells : (stack : List Ty) (depth : ℕ) → depth ≤ length stack → 0 < depth → cells stack depth ≢ []
some-cells stack depth le deep e = absurd (omega (arith, length-cells stack depth le, ap length e))

-- the truth of a fact from the answer that decides it
pub when-true : (P : Type 0) (b : Bool) → MatchBool b P (¬ P) → b ≡ true → P
when-true x x2 h e = grind (arith, false≢true)

pub when-false : (P : Type 0) (b : Bool) → MatchBool b P (¬ P) → b ≡ false → ¬ P
when-false x x2 h e = grind (arith, false≢true)

pub put-one : (stack : List Ty) (ty : Ty) → (length stack == 0) ≡ false → IsPut stack ty (set stack 0 ty) 1
unfolding cells
put-one [] ty e = absurd (false≢true (sym e))
put-one (x ∷ xs) ty e = inr (λ zero_long. absurd (omega (arith, zero_long)), refl, refl)

module _ (v : Verifier) (marked : ℕ → Type 0) (place : ℕ) (arrival : Arrival) where
  abbrev m : Method
  m = method v

  -- no handler begins there
  module _ (stack : List Ty) (free : ¬ (IsEntry m place)) (fallen : MatchBool arrival.may_fall (IsFallenInto m place) (¬ (IsFallenInto m place))) where
    pub arrived : (b : Bool) → arrival.may_fall ≡ b → Arrives (world_of v) m arrival.may_fall (cells stack arrival.depth) place
        (cells stack (if b then arrival.depth else 0))
    arrived true e = arrives_falling free e
    arrived false e = subst (Arrives (world_of v) m arrival.may_fall (cells stack arrival.depth) place) (sym (no-cells stack)) (arrives_empty free e)

    no-left : (n : ℕ) → ¬ ((0 < n) × marked place) → marked place → n ≡ 0
    no-left zero other t = refl
    no-left (suc n) other t = absurd (other (omega arith, t))

    pub landed : ¬ (IsBlocked marked place arrival) → IsLanded v marked place arrival stack (cells stack (left arrival))
    landed other = record {
      arrives = arrived arrival.may_fall refl;
      suits = record {
        entry = λ e. absurd (free e);
        caught = λ e. absurd (free e);
        mark = λ t f. ap (cells stack) (no-left (left arrival) other t) ∙ no-cells stack;
      };
    }

    pub falling : (b : Bool) → arrival.may_fall ≡ b → 0 < (if b then arrival.depth else 0) → arrival.may_fall ≡ true
    falling x e lt = grind (arith)

    pub within : (b : Bool) → arrival.depth ≤ length stack → (if b then arrival.depth else 0) ≤ length stack
    within x le = grind (arith)

    pub mislanded-mark : (depth : ℕ) → depth ≡ left arrival → arrival.depth ≤ length stack → IsBlocked marked place arrival
        → IsMislanded v marked arrival stack stack (record { place = place; depth = depth; kind = StackAtTarget })
    mislanded-mark depth is le blocked = record {
      arrives =
          subst (λ (n : ℕ). Arrives (world_of v) m arrival.may_fall (cells stack arrival.depth) place (cells stack n)) (sym is)
          (arrived arrival.may_fall refl);
      wrong = λ i regs here.
          wrong_mark
          (λ e. free (subst (IsEntry m) here e))
          (subst marked (sym here) blocked.1)
          (subst (IsFallenInto m) (sym here) (when-true (IsFallenInto m place) arrival.may_fall fallen (falling arrival.may_fall refl blocked.0)))
          (subst (λ (n : ℕ). cells stack n ≢ []) (sym is) (some-cells stack (left arrival) (within arrival.may_fall le) blocked.0));
      within = subst (λ (n : ℕ). n ≤ length stack) (sym is) (within arrival.may_fall le);
    }

  -- a handler begins there
  module _ (before after : List Ty) (depth c : ℕ) (entry : IsEntry m place) (catches : CatchesAt (world_of v).classes m place c)
      (room : length before ≡ m.rec.max_stack) (long : length after ≡ length before) (put : IsPut before (Class c) after depth)
      (fallen : MatchBool arrival.may_fall (IsFallenInto m place) (¬ (IsFallenInto m place))) where
    pub entered : Arrives (world_of v) m arrival.may_fall (cells before arrival.depth) place (cells after depth)
    entered = by put
      where
        by : IsPut before (Class c) after depth → Arrives (world_of v) m arrival.may_fall (cells before arrival.depth) place (cells after depth)
        by (inl full) =
            subst (Arrives (world_of v) m arrival.may_fall (cells before arrival.depth) place) (sym (ap (cells after) full.1 ∙ no-cells after))
            (arrives_full entry (sym room ∙ full.0))
        by (inr there) =
            subst (Arrives (world_of v) m arrival.may_fall (cells before arrival.depth) place) (sym there.2)
            (arrives_caught c entry (λ none. there.0 (room ∙ none)) catches)

    has-room : ¬ (depth ≡ 0) → ¬ (m.rec.max_stack ≡ 0)
    has-room deep none = by put
      where
        by : IsPut before (Class c) after depth → ⊥
        by (inl full) = deep full.1
        by (inr there) = there.0 (room ∙ none)

    no-room : depth ≡ 0 → m.rec.max_stack ≡ 0
    no-room none = by put
      where
        by : IsPut before (Class c) after depth → m.rec.max_stack ≡ 0
        by (inl full) = sym room ∙ full.0
        by (inr there) = absurd (omega (arith, there.1, none))

    pub put-depth : depth ≤ m.rec.max_stack
    put-depth = by put
      where
        positive : (n : ℕ) → ¬ (n ≡ 0) → 1 ≤ n
        positive zero other = absurd (other refl)
        positive (suc n) other = omega arith

        by : IsPut before (Class c) after depth → depth ≤ m.rec.max_stack
        by (inl full) = omega (arith, full.1)
        by (inr there) = let one = positive (length before) there.0 in omega (arith, there.1, one, room)

    not-falling : ¬ (IsShared marked place arrival) → (b : Bool) → arrival.may_fall ≡ b → arrival.may_fall ≡ false
    not-falling other x e = grind (arith)

    pub landed-caught : ¬ (depth ≡ 0) → ¬ (IsShared marked place arrival) → IsLanded v marked place arrival before (cells after depth)
    landed-caught deep other = grind (arith, entered, when-false, not-falling, has-room)

    pub mislanded-entry : IsShared marked place arrival
        → IsMislanded v marked arrival before after (record { place = place; depth = depth; kind = HandlerEntered })
    mislanded-entry from = record {
      arrives = entered;
      wrong = λ i regs here.
          wrong_entry (subst (IsEntry m) (sym here) entry)
          (subst (λ q. IsFallenInto m q ⊎ marked q) (sym here)
          (⊎_elim (λ falls_in. inl (when-true (IsFallenInto m place) arrival.may_fall fallen falls_in)) (λ t. inr t) from));
      within = let most = put-depth in omega (arith, most, long, room);
    }

    pub mislanded-room : depth ≡ 0 → ¬ (IsShared marked place arrival)
        → IsMislanded v marked arrival before after (record { place = place; depth = depth; kind = Rule Overflow })
    mislanded-room none other = record {
      arrives = entered;
      wrong = λ i regs here.
          wrong_room (subst (IsEntry m) (sym here) entry)
          (subst (λ q. ¬ (IsFallenInto m q ⊎ marked q)) (sym here)
          (λ either. ⊎_elim (when-false (IsFallenInto m place) arrival.may_fall fallen (not-falling other arrival.may_fall refl)) (λ t. other (inr t))
          either))
          (no-room none);
      within = omega (arith, none);
    }
