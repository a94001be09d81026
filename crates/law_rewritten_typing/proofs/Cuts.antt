-- A conditional over a stack that is deeper than its operands: the homes of the operands, and those of the cells under them.
use Rattle.std.proofs.Common.{◌≡◌, ℕ, zero, suc, ◌+◌, ◌<◌, ◌≤◌, Bool, true, false, List, [], ◌∷◌, ◌++◌, length}
use Rattle.std.proofs.Common.{reverse, drop, filter, slice_get, All, Option, Some, None, Ok}
use Rattle.std.proofs.Common.{IsSomeAnd, refl, sym, ◌∙◌, ap, subst, arith, length-append}
use Rattle.std.specs.Prelude.{nat_le, nat_lt}
use Rattle.std.proofs.lemmas.Bool.Decides.{nat_tests}
use Rattle.std.proofs.lemmas.List.{append-nil, reverse-append, reverse-reverse, length-reverse}
use Rattle.std.proofs.lemmas.List.Elements.{All-head, All-tail}
use Rattle.jc_base.specs.Cell.{AreWhole, no_cells as no_whole, whole_int, one_cell, IsNoHalf}
use Rattle.jc_base.specs.Class.{object}
use Rattle.jc_base.specs.Laws.{IsOrderOfTypes}
use Rattle.jc_base.specs.Order.{Below}
use Rattle.jc_base.specs.declared.ty.Ty.{Ty}
use Rattle.jc_base.specs.declared.ty.Ty.TheVariants.{Short, IntHigh, IntLow, Class}
use Rattle.jc_base.specs.World.{Linked}
use Rattle.jc_ops.specs.declared.operation.Branch.TheVariants as branches
use Rattle.jc_ops.specs.declared.operation.Operation.{Operation}
use Rattle.jc_ops.specs.declared.operation.Operation.TheVariants as ops
use Rattle.jc_ops.specs.declared.operation.Width.TheVariants as widths
use Rattle.jc_rules.specs.declared.effect.Mode.TheVariants.{Flow}
use Rattle.jc_rules.specs.declared.rule.Outcome.{Outcome}
use Rattle.jc_rules.specs.Apply.{OperationApplies}
use Rattle.jc_rules.specs.Demand.{Frame}
use Rattle.jc_rules.specs.Flow.{IsNotTop}
use Rattle.jc_rules.specs.Laws.{IsNotBottom}
use Rattle.xf_homes.specs.declared.home.Home.{Home}
use Rattle.xf_homes.specs.Home.{IsConditional, register_count}
use Rattle.xf_homes.specs.Value.{value_in_cells}
use Rattle.xf_homes.specs.Walk.{operands_of}
use Rattle.xf_homes.specs.Source.{Source}
use Rattle.xf_homes.specs.Plan.{stack_homes, cells_from, with_home_of, home_of, stack_of}
use Rattle.xf_emission.specs.Jump.{operands_slot, under, operands}
use Rattle.law_rewritten_typing.proofs.Moves.{applies-by}
use Rattle.law_rewritten_typing.proofs.Stacks.{pushed, cells-pushed, turned-reverse}
use Rattle.law_rewritten_typing.proofs.Carried.{is-short, is-high, is-low}
use Rattle.law_rewritten_typing.proofs.Running.{is-reference}

-- ---- the operands of an operation

-- the stack of a conditional: its operands, and what is under them
pub record IsForked (w : Linked) (op : Operation) (n : ℕ) (stack after regs : List Ty) : Type 0 where
  pub operands : List Ty
  pub parts : stack ≡ operands ++ after
  pub size : length operands ≡ n
  pub whole : AreWhole (reverse operands)
  pub applies : (limit : ℕ) → (o : Outcome) × OperationApplies w limit op Flow (record { regs = regs; stack = operands })
      (record { regs = regs; stack = [] }) o

one-fork : (w : Linked) (op : Operation) (stack after regs : List Ty) (P : Ty → Type 0) → IsSomeAnd (slice_get stack 0) P → after ≡ drop 1 stack
    → All IsNotBottom stack → ((a : Ty) → P a → IsNotBottom a → IsNoHalf a)
    → ((a : Ty) → P a → (limit : ℕ) → (o : Outcome) × OperationApplies w limit op Flow (record { regs = regs; stack = a ∷ [] })
    (record { regs = regs; stack = [] }) o)
    → IsForked w op 1 stack after regs
one-fork w op [] after regs P h e full whole does = absurd h
one-fork w op (a ∷ rest) after regs P h e full whole does = record {
  operands = a ∷ [];
  parts = ap (λ (us : List Ty). a ∷ us) (sym e);
  size = refl;
  whole = one_cell (whole a h (All-head IsNotBottom a rest full)) no_whole;
  applies = does a h;
}

two-fork : (w : Linked) (op : Operation) (stack after regs : List Ty) (P Q : Ty → Type 0) → IsSomeAnd (slice_get stack 0) P
    → IsSomeAnd (slice_get stack 1) Q → after ≡ drop 2 stack → All IsNotBottom stack
    → ((a b : Ty) → P a → Q b → IsNotBottom a → IsNotBottom b → AreWhole (b ∷ a ∷ []))
    → ((a b : Ty) → P a → Q b → (limit : ℕ) → (o : Outcome) × OperationApplies w limit op Flow (record { regs = regs; stack = a ∷ b ∷ [] })
    (record { regs = regs; stack = [] }) o)
    → IsForked w op 2 stack after regs
two-fork w op [] after regs P Q h g e full whole does = absurd h
two-fork w op (a ∷ []) after regs P Q h g e full whole does = absurd g
two-fork w op (a ∷ b ∷ rest) after regs P Q h g e full whole does = record {
  operands = a ∷ b ∷ [];
  parts = ap (λ (us : List Ty). a ∷ b ∷ us) (sym e);
  size = refl;
  whole = whole a b h g (All-head IsNotBottom a (b ∷ rest) full) (All-head IsNotBottom b rest (All-tail IsNotBottom a (b ∷ rest) full));
  applies = does a b h g;
}

module _ (w : Linked) (types : IsOrderOfTypes w.classes) (regs : List Ty) where
  short-whole : (a : Ty) → Below w.classes a Short → IsNotBottom a → IsNoHalf a
  short-whole a le n = subst IsNoHalf (sym (is-short w.classes types a le n)) tt

  reference-whole : (a : Ty) → Below w.classes a (Class (object w.classes)) → IsNotBottom a → IsNoHalf a
  reference-whole a le n = (is-reference w.classes types a (object w.classes) le n).no_half

  both-whole : (a b : Ty) → IsNoHalf a → IsNoHalf b → AreWhole (b ∷ a ∷ [])
  both-whole a b p q = one_cell q (one_cell p no_whole)

  int-whole : (a b : Ty) → Below w.classes a IntLow → Below w.classes b IntHigh → IsNotBottom a → IsNotBottom b → AreWhole (b ∷ a ∷ [])
  int-whole a b p q n m =
      subst (λ (y : Ty). AreWhole (y ∷ a ∷ [])) (sym (is-high w.classes types b q m))
      (subst (λ (y : Ty). AreWhole (IntHigh ∷ y ∷ [])) (sym (is-low w.classes types a p n)) (whole_int no_whole))

  some-same : (a n : ℕ) → Some a ≡ Some n → a ≡ n
  some-same a n e = cc

  pub forked : (limit n : ℕ) (op : Operation) (before after : Frame) (o : Outcome) → IsConditional op → operands_of w (Ok op) ≡ Some n
      → All IsNotBottom before.stack → OperationApplies w limit op Flow before after o → IsForked w op n before.stack after.stack regs
  forked limit n (ops.Branch branches.Always) f after o is e full a = absurd is
  forked limit n (ops.Branch (branches.Zero c)) f after o is e full a =
      subst (λ (k : ℕ). IsForked w (ops.Branch (branches.Zero c)) k f.stack after.stack regs) (some-same 1 n e)
      (one-fork w (ops.Branch (branches.Zero c)) f.stack after.stack regs (λ x. Below w.classes x Short) a.asked.0 a.stack full short-whole
      (λ x p more. applies-by w more (ops.Branch (branches.Zero c)) (record { regs = regs; stack = x ∷ [] }) (record { regs = regs; stack = [] }) (p, tt)
      refl refl (omega arith)))
  forked limit n (ops.Branch (branches.Null c)) f after o is e full a =
      subst (λ (k : ℕ). IsForked w (ops.Branch (branches.Null c)) k f.stack after.stack regs) (some-same 1 n e)
      (one-fork w (ops.Branch (branches.Null c)) f.stack after.stack regs (λ x. Below w.classes x (Class (object w.classes))) a.asked.0 a.stack full
      reference-whole
      (λ x p more. applies-by w more (ops.Branch (branches.Null c)) (record { regs = regs; stack = x ∷ [] }) (record { regs = regs; stack = [] }) (p, tt)
      refl refl (omega arith)))
  forked limit n (ops.Branch (branches.References c)) f after o is e full a =
      subst (λ (k : ℕ). IsForked w (ops.Branch (branches.References c)) k f.stack after.stack regs) (some-same 2 n e)
      (two-fork w (ops.Branch (branches.References c)) f.stack after.stack regs (λ x. Below w.classes x (Class (object w.classes)))
      (λ x. Below w.classes x (Class (object w.classes))) a.asked.0 a.asked.1.0 a.stack full
      (λ x y p q nx ny. both-whole x y (reference-whole x p nx) (reference-whole y q ny))
      (λ x y p q more. applies-by w more (ops.Branch (branches.References c)) (record { regs = regs; stack = x ∷ y ∷ [] })
      (record { regs = regs; stack = [] }) (p, (q, tt)) refl refl (omega arith)))
  forked limit n (ops.Branch (branches.Shorts c)) f after o is e full a =
      subst (λ (k : ℕ). IsForked w (ops.Branch (branches.Shorts c)) k f.stack after.stack regs) (some-same 2 n e)
      (two-fork w (ops.Branch (branches.Shorts c)) f.stack after.stack regs (λ x. Below w.classes x Short) (λ x. Below w.classes x Short) a.asked.0
      a.asked.1.0 a.stack full
      (λ x y p q nx ny. both-whole x y (short-whole x p nx) (short-whole y q ny))
      (λ x y p q more. applies-by w more (ops.Branch (branches.Shorts c)) (record { regs = regs; stack = x ∷ y ∷ [] })
      (record { regs = regs; stack = [] }) (p, (q, tt)) refl refl (omega arith)))
  forked limit n (ops.Switch widths.Short) f after o is e full a =
      subst (λ (k : ℕ). IsForked w (ops.Switch widths.Short) k f.stack after.stack regs) (some-same 1 n e)
      (one-fork w (ops.Switch widths.Short) f.stack after.stack regs (λ x. Below w.classes x Short) a.asked.0 a.stack full short-whole
      (λ x p more. applies-by w more (ops.Switch widths.Short) (record { regs = regs; stack = x ∷ [] }) (record { regs = regs; stack = [] }) (p, tt) refl
      refl (omega arith)))
  forked limit n (ops.Switch widths.Int) f after o is e full a =
      subst (λ (k : ℕ). IsForked w (ops.Switch widths.Int) k f.stack after.stack regs) (some-same 2 n e)
      (two-fork w (ops.Switch widths.Int) f.stack after.stack regs (λ x. Below w.classes x IntLow) (λ x. Below w.classes x IntHigh) a.asked.0 a.asked.1.0
      a.stack full
      int-whole
      (λ x y p q more. applies-by w more (ops.Switch widths.Int) (record { regs = regs; stack = x ∷ y ∷ [] }) (record { regs = regs; stack = [] })
      (p, (q, tt)) refl refl (omega arith)))
  forked limit n op f after o is e full a = absurd is

-- ---- their homes

cells-split : (slot : ℕ) (all : List Ty) (i a b : ℕ) → cells_from slot all i (a + b) ≡ cells_from slot all i a ++ cells_from slot all (i + a) b
cells-split slot all i zero b = grind (arith)
cells-split slot all i (suc a) b =
    let e : suc i + a ≡ i + suc a = omega arith in
    let f : suc a + b ≡ suc (a + b) = omega arith in
    ap (cells_from slot all i) f
    ∙ by (home_of (slot + i) (value_in_cells all i))
    (cells-split slot all (suc i) a b ∙ ap (λ (k : ℕ). cells_from slot all (suc i) a ++ cells_from slot all k b) e)
  where
    by : (h : Option Home) → cells_from slot all (suc i) (a + b) ≡ cells_from slot all (suc i) a ++ cells_from slot all (i + suc a) b
        → with_home_of h (cells_from slot all (suc i) (a + b)) ≡ with_home_of h (cells_from slot all (suc i) a) ++ cells_from slot all (i + suc a) b
    by None e = e
    by (Some k) e = ap (λ (hs : List Home). k ∷ hs) e

filter-some : (p : Home → Bool) (h : Home) (hs : List Home) → p h ≡ true → filter p (h ∷ hs) ≡ h ∷ filter p hs
filter-some p h hs e = rw e refl

filter-none : (p : Home → Bool) (h : Home) (hs : List Home) → p h ≡ false → filter p (h ∷ hs) ≡ filter p hs
filter-none p h hs e = rw e refl

-- all of them pass a test of the slot, or none
filter-all : (p : Home → Bool) (slot : ℕ) (all : List Ty) (i n : ℕ) (rest kept : List Home)
    → ((k : ℕ) (ty : Ty) → i ≤ k → k < i + n → p (record { slot = slot + k; ty = ty }) ≡ true) → filter p rest ≡ kept
    → filter p (cells_from slot all i n ++ rest) ≡ cells_from slot all i n ++ kept
filter-all p slot all i zero rest kept is e = e
filter-all p slot all i (suc n) rest kept is e =
    by (value_in_cells all i) (filter-all p slot all (suc i) n rest kept (λ k ty lo hi. is k ty (omega (arith, lo)) (omega (arith, hi))) e)
  where
    by : (v : Option Ty) → filter p (cells_from slot all (suc i) n ++ rest) ≡ cells_from slot all (suc i) n ++ kept
        → filter p (with_home_of (home_of (slot + i) v) (cells_from slot all (suc i) n) ++ rest) ≡ with_home_of (home_of (slot + i) v)
        (cells_from slot all (suc i) n) ++ kept
    by None f = f
    by (Some ty) f =
        filter-some p (record { slot = slot + i; ty = ty }) (cells_from slot all (suc i) n ++ rest) (is i ty (omega arith) (omega arith))
        ∙ ap (λ (js : List Home). record { slot = slot + i; ty = ty } ∷ js) f

filter-no : (p : Home → Bool) (slot : ℕ) (all : List Ty) (i n : ℕ) (rest kept : List Home)
    → ((k : ℕ) (ty : Ty) → i ≤ k → k < i + n → p (record { slot = slot + k; ty = ty }) ≡ false) → filter p rest ≡ kept
    → filter p (cells_from slot all i n ++ rest) ≡ kept
filter-no p slot all i zero rest kept is e = e
filter-no p slot all i (suc n) rest kept is e =
    by (value_in_cells all i) (filter-no p slot all (suc i) n rest kept (λ k ty lo hi. is k ty (omega (arith, lo)) (omega (arith, hi))) e)
  where
    by : (v : Option Ty) → filter p (cells_from slot all (suc i) n ++ rest) ≡ kept
        → filter p (with_home_of (home_of (slot + i) v) (cells_from slot all (suc i) n) ++ rest) ≡ kept
    by None f = f
    by (Some ty) f = filter-none p (record { slot = slot + i; ty = ty }) (cells_from slot all (suc i) n ++ rest) (is i ty (omega arith) (omega arith)) ∙ f

pushed-append : (hs ks : List Home) (stack : List Ty) → pushed (hs ++ ks) stack ≡ pushed ks (pushed hs stack)
pushed-append [] ks stack = refl
pushed-append (h ∷ hs) ks stack = pushed-append hs ks _

cancel : (xs ys zs : List Ty) → xs ++ ys ≡ xs ++ zs → ys ≡ zs
cancel [] ys zs e = e
cancel (x ∷ xs) ys zs e = cancel xs ys zs (ap tail e)
  where
    tail : List Ty → List Ty
    tail [] = []
    tail (a ∷ us) = us

-- the homes of a stack, cut above those under the operands
pub record IsCut (s : Source) (p n : ℕ) (above below : List Ty) : Type 0 where
  pub parts : stack_homes s p ≡ under s p n ++ operands s p n
  pub under_is : pushed (under s p n) [] ≡ below
  pub operands_is : pushed (operands s p n) [] ≡ above
  pub from_bottom : under s p n ≡ cells_from (register_count s.method.rec) (reverse below ++ reverse above) 0 (length below)

pub cut-is : (s : Source) (p n : ℕ) (f : Frame) (above below : List Ty) → s.frames p ≡ Some f → f.stack ≡ above ++ below → length above ≡ n
    → AreWhole (reverse above) → All IsNotTop (reverse above) → pushed (stack_homes s p) [] ≡ f.stack → IsCut s p n above below
unfolding stack_homes under operands
cut-is s p n f above below at is size whole nt all = record {
  parts = parts ∙ ap (λ (hs : List Home). hs ++ second) (sym under_first) ∙ ap (λ (hs : List Home). under s p n ++ hs) (sym operands_second);
  under_is =
      ap (λ (hs : List Home). pushed hs []) under_first
      ∙ cancel above (pushed first []) below (sym (second_on (pushed first [])) ∙ sym (pushed-append first second [])
      ∙ ap (λ (hs : List Home). pushed hs []) (sym parts) ∙ all ∙ is);
  operands_is = ap (λ (hs : List Home). pushed hs []) operands_second ∙ second_on [] ∙ append-nil above;
  from_bottom = under_first ∙ ap (λ (k : ℕ). cells_from base types 0 k) (length-reverse below);
}
  where
    base : ℕ
    base = register_count s.method.rec

    types : List Ty
    types = reverse below ++ reverse above

    first : List Home
    first = cells_from base types 0 (length (reverse below))

    second : List Home
    second = cells_from base types (length (reverse below)) (length (reverse above))

    turned_is : reverse f.stack ≡ types
    turned_is = ap reverse is ∙ reverse-append above below

    stack_is : stack_of (s.frames p) ≡ types
    stack_is = ap stack_of at ∙ turned_is

    parts : stack_homes s p ≡ first ++ second
    parts = grind (arith, reverse, length-append, stack_is, cells-split)

    bound : operands_slot s p n ≡ base + length (reverse below)
    bound = grind (arith, reverse, stack_is, length-append, length-reverse)

    lower : (k : ℕ) → k < length (reverse below) → nat_lt (base + k) (operands_slot s p n) ≡ true
    lower k lt = let b = bound in grind (arith, nat_tests, b, lt)

    upper : (k : ℕ) → length (reverse below) ≤ k → nat_lt (base + k) (operands_slot s p n) ≡ false
    upper k le = let b = bound in grind (arith, nat_tests, b, le)

    lower-not : (k : ℕ) → k < length (reverse below) → nat_le (operands_slot s p n) (base + k) ≡ false
    lower-not k lt = let b = bound in grind (arith, nat_tests, b, lt)

    upper-is : (k : ℕ) → length (reverse below) ≤ k → nat_le (operands_slot s p n) (base + k) ≡ true
    upper-is k le = let b = bound in grind (arith, nat_tests, b, le)

    under_first : under s p n ≡ first
    under_first =
        ap (filter (λ h. nat_lt h.slot (operands_slot s p n))) (parts ∙ ap (λ (hs : List Home). first ++ hs) (sym (append-nil second)))
        ∙ filter-all (λ h. nat_lt h.slot (operands_slot s p n)) base types 0 (length (reverse below)) (second ++ []) []
        (λ k ty lo hi. lower k (omega (arith, hi)))
        (filter-no (λ h. nat_lt h.slot (operands_slot s p n)) base types (length (reverse below)) (length (reverse above)) [] []
        (λ k ty lo hi. upper k lo) refl)
        ∙ append-nil first

    operands_second : operands s p n ≡ second
    operands_second =
        ap (filter (λ h. nat_le (operands_slot s p n) h.slot)) (parts ∙ ap (λ (hs : List Home). first ++ hs) (sym (append-nil second)))
        ∙ filter-no (λ h. nat_le (operands_slot s p n) h.slot) base types 0 (length (reverse below)) (second ++ []) (second ++ [])
        (λ k ty lo hi. lower-not k (omega (arith, hi)))
        (filter-all (λ h. nat_le (operands_slot s p n) h.slot) base types (length (reverse below)) (length (reverse above)) [] []
        (λ k ty lo hi. upper-is k lo) refl)
        ∙ append-nil second

    second_on : (stack : List Ty) → pushed second stack ≡ above ++ stack
    second_on stack = grind (arith, cells-pushed, reverse, turned-reverse, reverse-reverse)
