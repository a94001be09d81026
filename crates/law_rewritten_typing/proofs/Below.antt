-- Values of registers below others, and registers that an operation leaves as they were.
use Rattle.std.proofs.Common.{◌≡◌, ◌≢◌, ◌⊎◌, ℕ, zero, suc, ◌+◌, ◌<◌, ◌==◌, Bool, true, false, ◌||◌, inl, inr}
use Rattle.std.proofs.Common.{List, [], ◌∷◌, ◌++◌, length, set, slice_get, replicate, All}
use Rattle.std.proofs.Common.{Option, Some, None, IsSomeAnd, refl, sym, ◌∙◌, ap}
use Rattle.std.proofs.Common.{subst, arith}
use Rattle.std.proofs.lemmas.Bool.Decides.{nat_tests}
use Rattle.jc_base.specs.Cell.{IsNoHalf}
use Rattle.jc_base.specs.Class.{ClassTable, object}
use Rattle.jc_base.specs.Laws.{IsOrderOfTypes}
use Rattle.jc_base.specs.Order.{Below, is_below}
use Rattle.jc_base.specs.declared.ty.Ty.{Ty}
use Rattle.jc_base.specs.declared.ty.Ty.TheVariants.{Short, IntHigh, IntLow, Class, Top}
use Rattle.jc_base.specs.World.{Linked}
use Rattle.jc_base.proofs.Lists.{All-slice_get, slice_get-left}
use Rattle.jc_ops.specs.declared.operation.Operation.{Operation}
use Rattle.jc_ops.specs.declared.operation.Operation.TheVariants as ops
use Rattle.jc_ops.specs.declared.operation.Sort.TheVariants as sorts
use Rattle.jc_ops.specs.declared.operation.Width.TheVariants as widths
use Rattle.jc_rules.specs.declared.effect.Mode.TheVariants.{Flow}
use Rattle.jc_rules.specs.declared.rule.Outcome.{Outcome}
use Rattle.jc_rules.specs.Apply.{OperationApplies}
use Rattle.jc_rules.specs.Demand.{Frame}
use Rattle.jc_rules.specs.Rule.{cell}
use Rattle.jc_rules.specs.Flow.{CellsBelow, no_cells, more_cells, IsNotTop}
use Rattle.jc_rules.specs.Laws.{IsNotBottom}
use Rattle.xf_homes.specs.Value.{value_in_cells}
use Rattle.xf_emission.specs.Edge.{is_stored}
use Rattle.xf_emission.specs.Move.{load_op}
use Rattle.law_rewritten_typing.proofs.Moves.{set-same}
use Rattle.law_rewritten_typing.proofs.Ready.{IsValueAt, value-is}
use Rattle.law_rewritten_typing.proofs.WholeStacks.{high-only, low-only}
use Rattle.law_rewritten_typing.proofs.Carried.{is-short, is-high, is-low, set-other, registers-stay}
use Rattle.law_rewritten_typing.proofs.Running.{value-one, value-int}

-- ---- one cell

pub under-at :
    (t : ClassTable) (xs ys : List Ty) (x : ℕ) (b : Ty) → CellsBelow t xs ys → slice_get ys x ≡ Some b
    → (a : Ty) × (slice_get xs x ≡ Some a) × Below t a b
under-at t _ _ x b no_cells e = absurd (cc)
under-at t _ _ zero b (more_cells {a = c} {b = d} p ps) e = let own : d ≡ b = cc in (c, refl, subst (Below t c) own p)
under-at t _ _ (suc x) b (more_cells {xs = xs} {ys = ys} p ps) e = under-at t xs ys x b ps e

pub some-at : (o : Option Ty) (P : Ty → Type 0) → IsSomeAnd o P → (a : Ty) × (o ≡ Some a) × P a
some-at x y h = grind (arith)

not-top : (b : Ty) → b ≢ Top → IsNotTop b
not-top b n = grind (arith)

no-half : (a : Ty) → a ≢ IntHigh → a ≢ IntLow → IsNoHalf a
no-half a h l = grind (arith)

pub is-high-or : (a : Ty) → (a ≡ IntHigh) ⊎ (a ≢ IntHigh)
is-high-or a = grind (arith)

-- ---- values

-- a value stays where its cells do
pub value-moved :
    (xs ys : List Ty) (y : ℕ) (u : Ty) → value_in_cells xs y ≡ Some u → slice_get ys y ≡ slice_get xs y
    → (u ≡ IntHigh → slice_get ys (y + 1) ≡ slice_get xs (y + 1)) → value_in_cells ys y ≡ Some u
value-moved xs ys y u v first second = by (is-high-or u)
  where
    is : IsValueAt xs y u
    is = value-is xs y u v

    by : (u ≡ IntHigh) ⊎ (u ≢ IntHigh) → value_in_cells ys y ≡ Some u
    by (inl e) = value-int ys y (first ∙ is.first ∙ ap Some e) (second e ∙ is.second e) ∙ ap Some (sym e)
    by (inr n) = value-one ys y u (first ∙ is.first) (no-half u n is.no_low) (not-top u is.no_top)

top-or-none : (n y : ℕ) → (slice_get (replicate n Top) y ≡ None) ⊎ (slice_get (replicate n Top) y ≡ Some Top)
top-or-none zero y = inl refl
top-or-none (suc n) zero = inr refl
top-or-none (suc n) (suc y) = top-or-none n y

inside-by : (xs : List Ty) (n y : ℕ) (a : Ty) → slice_get (xs ++ replicate n Top) y ≡ Some a → a ≢ Top → y < length xs
inside-by [] n y a e apart = by (top-or-none n y)
  where
    by : (slice_get (replicate n Top) y ≡ None) ⊎ (slice_get (replicate n Top) y ≡ Some Top) → y < 0
    by (inl f) = absurd (cc)
    by (inr f) = absurd (apart (same a (sym e ∙ f)))
      where
        same : (a : Ty) → Some a ≡ Some Top → a ≡ Top
        same a e = cc
inside-by (x ∷ xs) n zero a e apart = omega arith
inside-by (x ∷ xs) n (suc y) a e apart = omega (arith, inside-by xs n y a e apart)

-- a value among cells, and then such as hold anything, is one among the first
pub value-before : (xs : List Ty) (n y : ℕ) (u : Ty) → value_in_cells (xs ++ replicate n Top) y ≡ Some u → value_in_cells xs y ≡ Some u
value-before xs n y u v =
    value-moved (xs ++ replicate n Top) xs y u v (sym (slice_get-left xs (replicate n Top) y (inside-by xs n y u is.first is.no_top)))
    (λ high. sym (slice_get-left xs (replicate n Top) (y + 1) (inside-by xs n (y + 1) IntLow (is.second high) (λ e. absurd (cc)))))
  where
    is : IsValueAt (xs ++ replicate n Top) y u
    is = value-is (xs ++ replicate n Top) y u v

module _ (t : ClassTable) (types : IsOrderOfTypes t) where
  pub top-only : (b : Ty) → is_below t Top b ≡ true → b ≡ Top
  unfolding is_below
  top-only b e = grind (arith)

  short-only : (b : Ty) → is_below t Short b ≡ true → IsNotTop b → Short ≡ b
  unfolding is_below
  short-only b e n = grind (arith)

  -- a value that is not lone halves, under one of other registers
  pub value-below :
      (regs others : List Ty) → CellsBelow t regs others → All IsNotBottom regs → (x : ℕ) (ty : Ty) → value_in_cells others x ≡ Some ty
      → (u : Ty) × (value_in_cells regs x ≡ Some u) × Below t u ty
  value-below regs others le full x ty v =
      let a = under-at t regs others x ty le is.first in
      (a.0, by a.0 a.1 a.2, a.2)
    where
      is : IsValueAt others x ty
      is = value-is others x ty v

      by : (u : Ty) → slice_get regs x ≡ Some u → Below t u ty → value_in_cells regs x ≡ Some u
      by IntHigh e b =
          let high : ty ≡ IntHigh = high-only t types ty ((types.decided IntHigh ty).1 b) (not-top ty is.no_top) in
          let low = under-at t regs others (x + 1) IntLow le (is.second high) in
          let low_is : low.0 ≡ IntLow = is-low t types low.0 low.2 (All-slice_get IsNotBottom regs (x + 1) low.0 full low.1) in
          value-int regs x e (low.1 ∙ ap Some low_is)
      by IntLow e b = absurd (is.no_low (low-only t types ty ((types.decided IntLow ty).1 b) (not-top ty is.no_top)))
      by Top e b = absurd (is.no_top (top-only ty ((types.decided Top ty).1 b)))
      by u e b = value-one regs x u e tt tt

  -- two types, one below the other, are loaded alike
  pub loads-same : (a b : Ty) → Below t a b → IsNotBottom a → IsNotTop b → load_op a ≡ load_op b
  loads-same a b le n top = grind (arith, short-only, high-only, is-short, is-high)

  low-never : (c : ℕ) → is_below t IntLow (Class c) ≡ true → ⊥
  unfolding is_below
  low-never c e = absurd (cc)

  no-low-reference : (a : Ty) (c : ℕ) → Below t a (Class c) → a ≡ IntLow → ⊥
  no-low-reference a c le e = low-never c ((types.decided IntLow (Class c)).1 (subst (λ (u : Ty). Below t u (Class c)) e le))

  pub no-low-on : (stack : List Ty) (c : ℕ) → IsSomeAnd (slice_get stack 0) (λ a. Below t a (Class c)) → cell stack 0 ≡ IntLow → ⊥
  no-low-on [] c h e = h
  no-low-on (a ∷ rest) c h e = no-low-reference a c h e

-- ---- what an operation leaves

set-is : (xs : List Ty) (x : ℕ) (a b : Ty) → slice_get (set xs x a) x ≡ Some b → a ≡ b
set-is [] x a b e = absurd (cc)
set-is (c ∷ cs) zero a b e = cc
set-is (c ∷ cs) (suc x) a b e = set-is cs x a b e

-- a register of which it stores nothing
pub unwritten :
    (w : Linked) (types : IsOrderOfTypes w.classes) (limit : ℕ) (op : Operation) (before after : Frame) (o : Outcome)
    → OperationApplies w limit op Flow before after o → All IsNotBottom before.regs
    → (y : ℕ) → is_stored op y ≡ false → slice_get after.regs y ≡ slice_get before.regs y
unwritten w types limit (ops.Store sorts.Reference x) before after o a full y none = grind (arith, slice_get, set-other)
unwritten w types limit (ops.Store sorts.Short x) before after o a full y none = grind (arith, slice_get, set-other)
unwritten w types limit (ops.Store sorts.Int x) before after o a full y none = by (y == x) (y == x + 1) refl refl none
  where
    by : (b c : Bool) → (y == x) ≡ b → (y == x + 1) ≡ c → (b || c) ≡ false → slice_get after.regs y ≡ slice_get before.regs y
    by true c e g h = absurd (cc)
    by false true e g h = absurd (cc)
    by false false e g h =
        ap (λ (rs : List Ty). slice_get rs y) a.regs.low.after_is ∙ set-other a.regs.between (x + 1) y a.regs.low.value g
        ∙ ap (λ (rs : List Ty). slice_get rs y) a.regs.high.after_is ∙ set-other before.regs x y a.regs.high.value e
unwritten w types limit (ops.Increment widths.Short x amount) before after o a full y none =
    let found = some-at (slice_get before.regs x) (λ c. Below w.classes c Short) a.asked.1.0 in
    let short : found.0 ≡ Short = is-short w.classes types found.0 found.2 (All-slice_get IsNotBottom before.regs x found.0 full found.1) in
    ap (λ (rs : List Ty). slice_get rs y)
    (a.regs.after_is ∙ ap (set before.regs x) a.regs.stored ∙ set-same before.regs x Short (found.1 ∙ ap Some short))
unwritten w types limit (ops.Increment widths.Int x amount) before after o a full y none =
    let first = some-at (slice_get before.regs x) (λ c. Below w.classes c IntHigh) a.asked.1.0 in
    let high : first.0 ≡ IntHigh = is-high w.classes types first.0 first.2 (All-slice_get IsNotBottom before.regs x first.0 full first.1) in
    let second = some-at (slice_get before.regs (x + 1)) (λ c. Below w.classes c IntLow) a.asked.1.1.0 in
    let low : second.0 ≡ IntLow = is-low w.classes types second.0 second.2 (All-slice_get IsNotBottom before.regs (x + 1) second.0 full second.1) in
    let between : a.regs.between ≡ before.regs =
    a.regs.high.after_is ∙ ap (set before.regs x) a.regs.high.stored ∙ set-same before.regs x IntHigh (first.1 ∙ ap Some high) in
    ap (λ (rs : List Ty). slice_get rs y)
    (a.regs.low.after_is ∙ ap (set a.regs.between (x + 1)) a.regs.low.stored ∙ ap (λ (rs : List Ty). set rs (x + 1) IntLow) between
    ∙ set-same before.regs (x + 1) IntLow (second.1 ∙ ap Some low))
unwritten w types limit op before after o a full y none = ap (λ (rs : List Ty). slice_get rs y) (registers-stay w limit op before after o tt a)

-- the low half of an int of which the high half is not stored is not stored either
pub unspoiled :
    (w : Linked) (types : IsOrderOfTypes w.classes) (limit : ℕ) (op : Operation) (before after : Frame) (o : Outcome)
    → OperationApplies w limit op Flow before after o
    → (y : ℕ) → is_stored op y ≡ false → slice_get after.regs (y + 1) ≡ Some IntLow → is_stored op (y + 1) ≡ false
unspoiled w types limit (ops.Store sorts.Reference x) before after o a y none low = by (y + 1 == x) refl
  where
    by : (b : Bool) → (y + 1 == x) ≡ b → b ≡ false
    by false e = refl
    by true e =
        let own : y + 1 ≡ x = grind (arith, nat_tests, e) in
        let there : slice_get (set before.regs x a.regs.value) x ≡ Some IntLow =
        ap (slice_get (set before.regs x a.regs.value)) (sym own) ∙ ap (λ (rs : List Ty). slice_get rs (y + 1)) (sym a.regs.after_is) ∙ low in
        absurd (no-low-on w.classes types before.stack (object w.classes) a.asked.1.0 (sym a.regs.stored ∙ set-is before.regs x a.regs.value IntLow there))
unspoiled w types limit (ops.Store sorts.Short x) before after o a y none low = by (y + 1 == x) refl
  where
    by : (b : Bool) → (y + 1 == x) ≡ b → b ≡ false
    by false e = refl
    by true e =
        let own : y + 1 ≡ x = grind (arith, nat_tests, e) in
        let there : slice_get (set before.regs x a.regs.value) x ≡ Some IntLow =
        ap (slice_get (set before.regs x a.regs.value)) (sym own) ∙ ap (λ (rs : List Ty). slice_get rs (y + 1)) (sym a.regs.after_is) ∙ low in
        let never : Short ≡ IntLow = sym a.regs.stored ∙ set-is before.regs x a.regs.value IntLow there in
        absurd (cc)
unspoiled w types limit (ops.Store sorts.Int x) before after o a y none low = by (y + 1 == x) (y + 1 == x + 1) refl refl
  where
    by : (b c : Bool) → (y + 1 == x) ≡ b → (y + 1 == x + 1) ≡ c → (b || c) ≡ false
    by false false e f = refl
    by b true e f =
        let own : (y == x) ≡ true = grind (arith, nat_tests, f) in
        absurd (differ (y == x) (y == x + 1) own none)
      where
        differ : (b c : Bool) → b ≡ true → (b || c) ≡ false → ⊥
        differ b c e f = absurd (cc)
    by true false e f =
        let own : y + 1 ≡ x = grind (arith, nat_tests, e) in
        let apart : (x == x + 1) ≡ false = grind (arith, nat_tests) in
        let there : slice_get (set before.regs x a.regs.high.value) x ≡ Some IntLow =
        ap (λ (rs : List Ty). slice_get rs x) (sym a.regs.high.after_is)
        ∙ sym (set-other a.regs.between (x + 1) x a.regs.low.value apart)
        ∙ ap (λ (rs : List Ty). slice_get rs x) (sym a.regs.low.after_is) ∙ ap (slice_get after.regs) (sym own) ∙ low in
        let never : IntHigh ≡ IntLow = sym a.regs.high.stored ∙ set-is before.regs x a.regs.high.value IntLow there in
        absurd (cc)
unspoiled w types limit op before after o a y none low = refl
