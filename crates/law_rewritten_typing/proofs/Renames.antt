-- Uninitialised objects carry the place of the `new` that makes them. Where such places have other numbers, each to its own, what an
-- operation does to the stack is the same but for these numbers.
use Rattle.std.proofs.Common.{◌≡◌, ℕ, zero, suc, Bool, true, false, ◌==◌, if◌then◌else◌, List, [], ◌∷◌}
use Rattle.std.proofs.Common.{length, map, drop, slice_get, Option, Some, None, IsSomeAnd, IfSome, option_map, refl, sym, ap, subst}
use Rattle.std.proofs.Common.{arith}
use Rattle.std.specs.Prelude.{⊤}
use Rattle.std.proofs.lemmas.Bool.Decides.{nat_tests}
use Rattle.std.proofs.lemmas.List.{drop-map, take-map, map-append, length-map}
use Rattle.std.proofs.lemmas.Option.{slice_get-map}
use Rattle.jc_base.specs.Each.{Each}
use Rattle.jc_base.specs.declared.ty.Ty.{Ty}
use Rattle.jc_base.specs.declared.ty.Ty.TheVariants.{Class, Fresh, Top}
use Rattle.jc_base.specs.Class.{ClassTable}
use Rattle.jc_base.specs.Laws.{IsOrderOfTypes}
use Rattle.jc_base.specs.Order.{Below, anything, is_below}
use Rattle.jc_ops.specs.declared.operation.Want.{Want}
use Rattle.jc_ops.specs.declared.operation.Want.TheVariants.{Value, Receiver}
use Rattle.jc_ops.specs.declared.operation.Operation.{Operation}
use Rattle.jc_ops.specs.declared.operation.Operation.TheVariants as ops
use Rattle.jc_ops.specs.declared.operation.Width.TheVariants as widths
use Rattle.jc_rules.specs.declared.demand.Demand.{Demand}
use Rattle.jc_rules.specs.declared.demand.Demand.TheVariants.{Registers, Depth, Cell, Cut, Held}
use Rattle.jc_rules.specs.declared.effect.Cells.{Cells}
use Rattle.jc_rules.specs.declared.effect.Cells.TheVariants as given
use Rattle.jc_rules.specs.declared.effect.Change.TheVariants.{Replace, CopyUnder, Exchange}
use Rattle.jc_rules.specs.Demand.{Satisfies, SatisfiesAll, Meets, IsHalf}
use Rattle.jc_rules.specs.Effect.{changed, in_stack_order, ready}
use Rattle.jc_rules.specs.Flow.{IsNotFresh}
use Rattle.jc_rules.specs.Rule.{cell, value_given, result_given, ready_with, call_change, element}

module _ (new : ℕ → ℕ) (apart : (a b : ℕ) → new a ≡ new b → a ≡ b) where
  -- a type, with the place of its `new` in other code
  abbrev pub named : Ty → Ty
  named (Fresh p c) = Fresh (new p) c
  named ty = ty

  abbrev pub named_op : Operation → Operation
  named_op (ops.New p c) = ops.New (new p) c
  named_op op = op

  pub same-named : (ty : Ty) → IsNotFresh ty → named ty ≡ ty
  same-named ty h = grind (arith)

  -- ---- demands

  abbrev pub IsSteadyWant : Want → Type 0
  IsSteadyWant (Value ty) = IsNotFresh ty
  IsSteadyWant want = ⊤

  abbrev pub IsSteady : Demand → Type 0
  IsSteady (Cell n want) = IsSteadyWant want
  IsSteady d = ⊤

  module _ (t : ClassTable) (types : IsOrderOfTypes t) where
    fresh-below : (p c : ℕ) (ty : Ty) → is_below t (Fresh p c) ty ≡ true → IsNotFresh ty → ty ≡ Top
    unfolding is_below
    fresh-below p c ty e h = grind (arith)

    fresh-wanted : (p q c : ℕ) (ty : Ty) → IsNotFresh ty → Below t (Fresh p c) ty → Below t (Fresh q c) ty
    fresh-wanted p q c ty h le = let top = fresh-below p c ty ((types.decided (Fresh p c) ty).1 le) h in subst (Below t (Fresh q c)) (sym top) anything

    fresh-meets : (p q c : ℕ) (want : Want) → IsSteadyWant want → Meets t want (Fresh p c) → Meets t want (Fresh q c)
    fresh-meets p q c u st h = grind (arith, fresh-wanted)

    meets-named : (want : Want) (found : Ty) → IsSteadyWant want → Meets t want found → Meets t want (named found)
    meets-named want found st h = grind (arith, fresh-meets)

    half-named : (found half : Ty) → IsHalf half → named found ≡ half → found ≡ half
    half-named found half h e = grind (arith)

    half-at : (o : Option Ty) (half : Ty) → IsHalf half → option_map named o ≡ Some half → o ≡ Some half
    half-at x half h e = grind (arith, half-named)

    hold-named : (regs st : List Ty) (d : Demand) → IsSteady d → Satisfies t (record { regs = regs; stack = st }) d
        → Satisfies t (record { regs = regs; stack = map named st }) d
    hold-named regs st (Registers x n) s h = h
    hold-named regs st (Depth n) s h = omega (arith, h, length-map st named)
    hold-named regs st (Cell n want) s h = subst (λ (o : Option Ty). IsSomeAnd o (Meets t want)) (sym (slice_get-map named st n)) (by (slice_get st n) h)
      where
        by : (o : Option Ty) → IsSomeAnd o (Meets t want) → IsSomeAnd (option_map named o) (Meets t want)
        by None h = h
        by (Some found) h = meets-named want found s h
    hold-named regs st (Cut n) s h = grind (arith, half-at, slice_get, slice_get-map)
    hold-named regs st (Held x ty) s h = h

    pub all-named : (regs st : List Ty) (ds : List Demand) → Each IsSteady ds → SatisfiesAll t (record { regs = regs; stack = st }) ds
        → SatisfiesAll t (record { regs = regs; stack = map named st }) ds
    all-named regs st [] s h = tt
    all-named regs st (d ∷ ds) s h = (hold-named regs st d s.0 h.0, all-named regs st ds s.1 h.1)

  -- ---- effects

  ready-named : (p d : ℕ) (ty : Ty) → ready (new p) d (named ty) ≡ named (ready p d ty)
  ready-named p d (Fresh q c) = by (q == p) refl (new q == new p) refl
    where
      by : (a : Bool) → (q == p) ≡ a → (b : Bool) → (new q == new p) ≡ b → (if b then Class d else Fresh (new q) c)
          ≡ named (if a then Class d else Fresh q c)
      by true e true f = refl
      by false e false f = refl
      by true e false f = let own : q ≡ p = grind (arith, nat_tests, e) in absurd (differ (new q) (new p) (ap new own) f)
        where
          differ : (a b : ℕ) → a ≡ b → (a == b) ≡ false → ⊥
          differ a b e f = absurd (grind (arith, nat_tests, e, f))
      by false e true f = let own : new q ≡ new p = grind (arith, nat_tests, f) in absurd (other q p (apart q p own) e)
        where
          other : (a b : ℕ) → a ≡ b → (a == b) ≡ false → ⊥
          other a b e f = absurd (grind (arith, nat_tests, e, f))
  ready-named p d ty = refl

  map-ready : (p d : ℕ) (st : List Ty) → map (ready (new p) d) (map named st) ≡ map named (map (ready p d) st)
  map-ready p d [] = refl
  map-ready p d (ty ∷ st) = grind (arith, ready-named, map-ready p d st)

  pub cell-named : (st : List Ty) (n : ℕ) → cell (map named st) n ≡ named (cell st n)
  cell-named [] n = refl
  cell-named (ty ∷ st) zero = refl
  cell-named (ty ∷ st) (suc n) = cell-named st n

  pub replaced : (n : ℕ) (cells others : Cells) (st : List Ty) → in_stack_order others ≡ map named (in_stack_order cells)
      → changed (Replace n others) (map named st) ≡ map named (changed (Replace n cells) st)
  replaced n cells others st e = grind (arith, drop-map, map-append)

  pub value-same : (ty : Ty) → IsNotFresh ty → in_stack_order (value_given ty) ≡ map named (in_stack_order (value_given ty))
  value-same ty h = grind (arith)

  pub result-same : (result : Option Ty) → IfSome result IsNotFresh → in_stack_order (result_given result)
      ≡ map named (in_stack_order (result_given result))
  result-same x h = grind (arith, value-same)

  pub under-named : (m n : ℕ) (st : List Ty) → changed (CopyUnder m n) (map named st) ≡ map named (changed (CopyUnder m n) st)
  under-named m n st = grind (arith, take-map, drop-map, map-append)

  pub exchange-named : (m n : ℕ) (st : List Ty) → changed (Exchange m n) (map named st) ≡ map named (changed (Exchange m n) st)
  exchange-named m n st = grind (arith, drop-map, take-map, map-append)

  pub element-same : (ty : Ty) → given.One (element (named ty)) ≡ given.One (element ty)
  element-same ty = grind (arith)

  pub element-ready : (ty : Ty) → IsNotFresh (element ty)
  element-ready ty = grind (arith)

  ready-with-named : (n : ℕ) (cells : Cells) (ty : Ty) (want : Want) (st : List Ty) → in_stack_order cells ≡ map named (in_stack_order cells)
      → changed (ready_with n cells (named ty) want) (map named st) ≡ map named (changed (ready_with n cells ty want) st)
  ready-with-named n cells (Fresh p c) (Receiver d) st e =
      grind (arith, drop-map named n st, map-ready p d (drop n st), map-append named (in_stack_order cells) (map (ready p d) (drop n st)))
  ready-with-named n cells (Fresh p c) want st e = replaced n cells cells st e
  ready-with-named n cells ty want st e = replaced n cells cells st e

  pub call-named : (args : List Ty) (cells : Cells) (receiver : Option Want) (regs st : List Ty) → in_stack_order cells ≡ map named (in_stack_order cells)
      → changed (call_change args cells receiver (record { regs = regs; stack = map named st })) (map named st)
      ≡ map named (changed (call_change args cells receiver (record { regs = regs; stack = st })) st)
  call-named args cells None regs st e = replaced (length args) cells cells st e
  call-named args cells (Some want) regs st e = grind (arith, cell-named, ready-with-named)
