-- What an edge carries: the values of the locals that stand where it begins.
use Rattle.std.proofs.Common.{◌≡◌, ℕ, zero, suc, ◌+◌, ◌==◌, Bool, true, false, ◌||◌, if◌then◌else◌, inl, List, [], ◌∷◌}
use Rattle.std.proofs.Common.{◌++◌, set, slice_get, replicate, All, Option, Some, None, IsSomeAnd, refl, sym, ◌∙◌, ap, subst, arith}
use Rattle.std.specs.Prelude.{⊤}
use Rattle.std.proofs.lemmas.Bool.Decides.{nat_tests}
use Rattle.jc_base.specs.Class.{ClassTable}
use Rattle.jc_base.specs.Each.{IsAmong}
use Rattle.jc_base.specs.Laws.{ClassesAreObjects, IsOrderOfTypes}
use Rattle.jc_base.specs.Order.{Below, is_below, IsKnown}
use Rattle.jc_base.specs.declared.ty.Ty.{Ty}
use Rattle.jc_base.specs.declared.ty.Ty.TheVariants.{Short, IntHigh, IntLow, Top}
use Rattle.jc_base.specs.declared.record.MethodRec.{MethodRec}
use Rattle.jc_base.specs.World.{Linked}
use Rattle.jc_base.proofs.Lists.{All-slice_get}
use Rattle.jc_base.proofs.SameTypes.{same_type-decides}
use Rattle.jc_ops.specs.declared.operation.Operation.{Operation}
use Rattle.jc_ops.specs.declared.operation.Operation.TheVariants as ops
use Rattle.jc_ops.specs.declared.operation.Sort.TheVariants as sorts
use Rattle.jc_ops.specs.declared.operation.Width.TheVariants as widths
use Rattle.jc_rules.specs.declared.effect.Cells.TheVariants as given
use Rattle.jc_rules.specs.declared.effect.Mode.TheVariants.{Flow}
use Rattle.jc_rules.specs.declared.rule.Outcome.{Outcome}
use Rattle.jc_rules.specs.Apply.{OperationApplies}
use Rattle.jc_rules.specs.Demand.{Frame}
use Rattle.jc_rules.specs.Flow.{CellsBelow, IsNotFresh, start_frame}
use Rattle.jc_rules.specs.FlowLaws.{AreRules}
use Rattle.jc_rules.specs.Laws.{IsNotBottom}
use Rattle.jc_rules.specs.Rule.{effect}
use Rattle.xf_homes.specs.declared.home.Home.{Home}
use Rattle.xf_homes.specs.Home.{argument_types, asked_here}
use Rattle.xf_homes.specs.Value.{value_in_cells}
use Rattle.xf_homes.specs.Walk.{local_of}
use Rattle.xf_homes.proofs.Events.{among-has}
use Rattle.xf_homes.specs.Source.{Source}
use Rattle.xf_homes.specs.Plan.{needed, home_of}
use Rattle.xf_emission.specs.declared.origin.Origin.TheVariants.{Start, After, Entry}
use Rattle.xf_emission.specs.Edge.{is_stored, home_before}
use Rattle.law_rewritten_typing.specs.Typed.{registers_of}
use Rattle.law_rewritten_typing.proofs.Walks.{Asked}
use Rattle.law_rewritten_typing.proofs.Stacks.{Stands}
use Rattle.law_rewritten_typing.proofs.Ready.{IsReady, IsValueAt, value-is, value-plain}
use Rattle.law_rewritten_typing.proofs.Ready.{home-stands, local-stands, needed-are, needed-served}
use Rattle.law_rewritten_typing.proofs.Copies.{Carries}

-- ---- operations that store nothing

abbrev pub StoresNone : Operation → Type 0
StoresNone (ops.Store letter x) = ⊥
StoresNone (ops.Increment width x amount) = ⊥
StoresNone op = ⊤

pub stores-nothing : (w : Linked) (op : Operation) (f : Frame) → StoresNone op → (effect w op f).store.cells ≡ given.Nothing
stores-nothing w y f h = grind (arith)

-- the registers stay
pub registers-stay : (w : Linked) (limit : ℕ) (op : Operation) (before after : Frame) (o : Outcome) → StoresNone op
    → OperationApplies w limit op Flow before after o → after.regs ≡ before.regs
registers-stay w limit op before after o none a = grind (arith, stores-nothing)

-- ---- registers that are set

pub set-other : (xs : List Ty) (x y : ℕ) (a : Ty) → (y == x) ≡ false → slice_get (set xs x a) y ≡ slice_get xs y
set-other [] x y a e = refl
set-other (b ∷ bs) zero zero a e = absurd (cc)
set-other (b ∷ bs) zero (suc y) a e = refl
set-other (b ∷ bs) (suc x) zero a e = refl
set-other (b ∷ bs) (suc x) (suc y) a e = set-other bs x y a (less e)
  where
    less : (suc y == suc x) ≡ false → (y == x) ≡ false
    less e = grind (arith, nat_tests, e)

pub set-here : (xs : List Ty) (x : ℕ) (a b : Ty) → slice_get xs x ≡ Some b → slice_get (set xs x a) x ≡ Some a
set-here [] x a b e = absurd (cc)
set-here (c ∷ cs) zero a b e = refl
set-here (c ∷ cs) (suc x) a b e = set-here cs x a b e

module _ (t : ClassTable) (types : IsOrderOfTypes t) where
  under-short : (a : Ty) → is_below t a Short ≡ true → IsNotBottom a → a ≡ Short
  unfolding is_below
  under-short a e n = grind (arith)

  under-high : (a : Ty) → is_below t a IntHigh ≡ true → IsNotBottom a → a ≡ IntHigh
  unfolding is_below
  under-high a e n = grind (arith)

  under-low : (a : Ty) → is_below t a IntLow ≡ true → IsNotBottom a → a ≡ IntLow
  unfolding is_below
  under-low a e n = grind (arith)

  pub is-short : (a : Ty) → Below t a Short → IsNotBottom a → a ≡ Short
  is-short a le n = under-short a ((types.decided a Short).1 le) n

  pub is-high : (a : Ty) → Below t a IntHigh → IsNotBottom a → a ≡ IntHigh
  is-high a le n = under-high a ((types.decided a IntHigh).1 le) n

  pub is-low : (a : Ty) → Below t a IntLow → IsNotBottom a → a ≡ IntLow
  is-low a le n = under-low a ((types.decided a IntLow).1 le) n

held-at : (t : ClassTable) (xs : List Ty) (x : ℕ) (a b : Ty) → slice_get xs x ≡ Some a → IsSomeAnd (slice_get xs x) (λ found. Below t found b)
    → Below t a b
held-at t xs x a b e h = subst (λ (o : Option Ty). IsSomeAnd o (λ found. Below t found b)) e h

-- a local that an operation does not store has its value afterwards
pub unstored : (w : Linked) (types : IsOrderOfTypes w.classes) (limit : ℕ) (op : Operation) (before after : Frame) (o : Outcome)
    → OperationApplies w limit op Flow before after o → All IsNotBottom before.regs
    → (y : ℕ) (ty : Ty) → is_stored op y ≡ false → value_in_cells before.regs y ≡ Some ty → slice_get after.regs y ≡ Some ty
unstored w types limit (ops.Store sorts.Reference x) before after o a full y ty none v = grind (arith, slice_get, set-other, value-is)
unstored w types limit (ops.Store sorts.Short x) before after o a full y ty none v = grind (arith, slice_get, set-other, value-is)
unstored w types limit (ops.Store sorts.Int x) before after o a full y ty none v = by (y == x) (y == x + 1) refl refl none
  where
    by : (b c : Bool) → (y == x) ≡ b → (y == x + 1) ≡ c → (b || c) ≡ false → slice_get after.regs y ≡ Some ty
    by true c e g h = absurd (cc)
    by false true e g h = absurd (cc)
    by false false e g h =
        ap (λ (rs : List Ty). slice_get rs y) a.regs.low.after_is ∙ set-other a.regs.between (x + 1) y a.regs.low.value g
        ∙ ap (λ (rs : List Ty). slice_get rs y) a.regs.high.after_is ∙ set-other before.regs x y a.regs.high.value e
        ∙ (value-is before.regs y ty v).first
unstored w types limit (ops.Increment widths.Short x amount) before after o a full y ty none v = by (y == x) refl
  where
    is : IsValueAt before.regs y ty
    is = value-is before.regs y ty v

    by : (b : Bool) → (y == x) ≡ b → slice_get after.regs y ≡ Some ty
    by false e = ap (λ (rs : List Ty). slice_get rs y) a.regs.after_is ∙ set-other before.regs x y a.regs.value e ∙ is.first
    by true e =
        let own : y ≡ x = grind (arith, nat_tests, e) in
        let there : slice_get before.regs x ≡ Some ty = ap (slice_get before.regs) (sym own) ∙ is.first in
        let short : ty ≡ Short = is-short w.classes types ty (held-at w.classes before.regs x ty Short there a.asked.1.0)
        (All-slice_get IsNotBottom before.regs x ty full there) in
        ap (λ (rs : List Ty). slice_get rs y) a.regs.after_is ∙ ap (slice_get (set before.regs x a.regs.value)) own
        ∙ set-here before.regs x a.regs.value ty there ∙ ap Some (a.regs.stored ∙ sym short)
unstored w types limit (ops.Increment widths.Int x amount) before after o a full y ty none v = by (y == x) (y == x + 1) refl refl
  where
    is : IsValueAt before.regs y ty
    is = value-is before.regs y ty v

    differ : (y == x) ≡ true → (y == x + 1) ≡ false
    differ e = grind (arith, nat_tests, e)

    by : (b c : Bool) → (y == x) ≡ b → (y == x + 1) ≡ c → slice_get after.regs y ≡ Some ty
    by b true e g =
        let own : y ≡ x + 1 = grind (arith, nat_tests, g) in
        let there : slice_get before.regs (x + 1) ≡ Some ty = ap (slice_get before.regs) (sym own) ∙ is.first in
        absurd
        (is.no_low
        (is-low w.classes types ty (held-at w.classes before.regs (x + 1) ty IntLow there a.asked.1.1.0)
        (All-slice_get IsNotBottom before.regs (x + 1) ty full there)))
    by true false e g =
        let own : y ≡ x = grind (arith, nat_tests, e) in
        let there : slice_get before.regs x ≡ Some ty = ap (slice_get before.regs) (sym own) ∙ is.first in
        let high : ty ≡ IntHigh = is-high w.classes types ty (held-at w.classes before.regs x ty IntHigh there a.asked.1.0)
        (All-slice_get IsNotBottom before.regs x ty full there) in
        ap (λ (rs : List Ty). slice_get rs y) a.regs.low.after_is ∙ set-other a.regs.between (x + 1) y a.regs.low.value g
        ∙ ap (λ (rs : List Ty). slice_get rs y) a.regs.high.after_is ∙ ap (slice_get (set before.regs x a.regs.high.value)) own
        ∙ set-here before.regs x a.regs.high.value ty there ∙ ap Some (a.regs.high.stored ∙ sym high)
    by false false e g =
        ap (λ (rs : List Ty). slice_get rs y) a.regs.low.after_is ∙ set-other a.regs.between (x + 1) y a.regs.low.value g
        ∙ ap (λ (rs : List Ty). slice_get rs y) a.regs.high.after_is ∙ set-other before.regs x y a.regs.high.value e ∙ is.first
unstored w types limit op before after o a full y ty none v =
    ap (λ (rs : List Ty). slice_get rs y) (registers-stay w limit op before after o tt a) ∙ (value-is before.regs y ty v).first

-- ---- the home from which a local is copied

pub record IsHomeAt (cells : List Ty) (x : ℕ) (from : Home) : Type 0 where
  pub slot : from.slot ≡ x
  pub value : value_in_cells cells x ≡ Some from.ty

pub home-at : (cells : List Ty) (x : ℕ) (from : Home) → home_of x (value_in_cells cells x) ≡ Some from → IsHomeAt cells x from
home-at cells x from e = by (value_in_cells cells x) refl e
  where
    by : (v : Option Ty) → value_in_cells cells x ≡ v → home_of x v ≡ Some from → IsHomeAt cells x from
    by None h e = absurd (cc)
    by (Some ty) h e =
        let own : record { slot = x; ty = ty } ≡ from = cc in
        record { slot = ap (λ (k : Home). k.slot) (sym own); value = h ∙ ap (λ (k : Home). Some k.ty) own }

module _ {s : Source} (objects : ClassesAreObjects s.world.classes) (rules : AreRules s.world)
    (ready : IsReady s) (r : MethodRec) (asks : ℕ → Asked) where
  local-is : (p x : ℕ) (f : Frame) (from : Home) → s.frames p ≡ Some f → home_of x (local_of (s.frames p) x) ≡ Some from → IsHomeAt f.regs x from
  local-is p x f from e h = home-at f.regs x from (ap (λ (o : Option Frame). home_of x (local_of o x)) (sym e) ∙ h)

  home-is : (h : Home) (x : ℕ) → h.slot ≡ x → record { slot = x; ty = h.ty } ≡ h
  home-is h x e = ap (λ (k : ℕ). record { slot = k; ty = h.ty }) (sym e)

  from-stands : (p x : ℕ) (f : Frame) (from : Home) → s.frames p ≡ Some f → IsHomeAt f.regs x from
      → Stands s objects r (registers_of s.homes) asks from
  from-stands p x f from e is = grind (arith, home-is from x is.slot, local-stands objects rules ready r asks p f x from.ty e is.value)

  is-needed : (p x : ℕ) (f : Frame) (from : Home) → s.frames p ≡ Some f → IsHomeAt f.regs x from → IsAmong from (needed s p x)
  is-needed p x f from e is =
      ((needed-are objects rules ready r asks p x).all from).1
      (is.slot, (0, asked_here (subst (λ (o : Option Frame). IsSomeAnd o (λ (g : Frame). value_in_cells g.regs x ≡ Some from.ty)) (sym e) is.value)))

  -- after an instruction, into a place whose frame is above what it leaves
  pub carries-after :
      (p q limit : ℕ) (op : Operation) (f after g : Frame) (o : Outcome)
      → s.frames p ≡ Some f
      → OperationApplies s.world limit op Flow f after o
      → s.frames q ≡ Some g
      → CellsBelow s.world.classes after.regs g.regs
      → (y : ℕ) (from : Home) → home_before s (After p op) y ≡ Some from → Carries objects rules ready r asks (After p op) q y from
  carries-after p q limit op f after g o e a to below y from h = by (is_stored op y) refl h
    where
      by : (b : Bool) → is_stored op y ≡ b → (if b then None else home_of y (local_of (s.frames p) y)) ≡ Some from
          → Carries objects rules ready r asks (After p op) q y from
      by true stored h = absurd (cc)
      by false stored h =
          let is = local-is p y f from e h in
          let later = unstored s.world rules.types limit op f after o a (ready.whole p f e).regs y from.ty stored is.value in
          record {
            slot = is.slot;
            stands = from-stands p y f from e is;
            there = among-has same_type-decides (needed s p y) from (is-needed p y f from e is);
            below = λ k among. (needed-served objects rules ready r asks q y k among).above after.regs g from.ty to below later;
          }

  -- where a handler takes over, into its entry
  pub carries-entry : (q : ℕ) (g : Frame) → s.frames q ≡ Some g → (y : ℕ) (from : Home) → home_before s (Entry q) y ≡ Some from
      → Carries objects rules ready r asks (Entry q) q y from
  carries-entry q g to y from h =
      let is = local-is q y g from to h in
      record {
        slot = is.slot;
        stands = from-stands q y g from to is;
        there = among-has same_type-decides (from ∷ []) from (inl refl);
        below =
            λ k among. (needed-served objects rules ready r asks q y k among).above g.regs g from.ty to (rules.order.self g.regs)
            (value-is g.regs y from.ty is.value).first;
      }

  get-left : (xs ys : List Ty) (x : ℕ) (a : Ty) → slice_get xs x ≡ Some a → slice_get (xs ++ ys) x ≡ Some a
  get-left [] ys x a e = absurd (cc)
  get-left (b ∷ bs) ys zero a e = e
  get-left (b ∷ bs) ys (suc x) a e = get-left bs ys x a e

  -- an argument, into the first place
  pub carries-start : (g : Frame) → s.frames 0 ≡ Some g → CellsBelow s.world.classes (start_frame s.method.rec Top).regs g.regs
      → All (IsKnown s.world.classes) (argument_types s.method.rec) → All IsNotBottom (argument_types s.method.rec)
      → All IsNotFresh (argument_types s.method.rec)
      → (y : ℕ) (from : Home) → home_before s Start y ≡ Some from → Carries objects rules ready r asks Start 0 y from
  carries-start g to below known full fresh y from h =
      let is = home-at (argument_types s.method.rec) y from h in
      let argument : value_in_cells (argument_types s.method.rec) from.slot ≡ Some from.ty = ap (value_in_cells (argument_types s.method.rec)) is.slot
      ∙ is.value in
      record {
        slot = is.slot;
        stands =
            home-stands objects rules ready r asks from (from.slot, ready.serve.arguments from argument)
            (value-plain s.world.classes (argument_types s.method.rec) y from.ty is.value known full fresh);
        there = among-has same_type-decides (from ∷ []) from (inl refl);
        below = λ k among. (needed-served objects rules ready r asks 0 y k among).above (start_frame s.method.rec Top).regs g from.ty to below
            (get-left (argument_types s.method.rec) (replicate s.method.rec.max_locals Top) y from.ty
            (value-is (argument_types s.method.rec) y from.ty is.value).first);
      }
