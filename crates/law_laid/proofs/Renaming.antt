-- The rule of an operation applies alike where the places of uninitialised objects are renamed one to one.
use Rattle.std.proofs.Common.{◌≡◌, ℕ, suc, ◌==◌, Bool, true, false, ⊎_elim, if◌then◌else◌, List, [], ◌∷◌}
use Rattle.std.proofs.Common.{map, take, drop, Option, Some, option_map, IsSomeAnd, slice_get, All, refl, sym, ap, subst, arith}
use Rattle.std.specs.List.{list_all}
use Rattle.std.proofs.lemmas.Bool.{eqb-true, and_parts}
use Rattle.std.proofs.lemmas.Bool.Decides.{nat_tests}
use Rattle.std.proofs.lemmas.List.{map-append, take-map, drop-map, length-map}
use Rattle.std.proofs.lemmas.Option.{slice_get-map}
use Rattle.jc_base.specs.declared.ty.Ty.{Ty}
use Rattle.jc_base.specs.declared.ty.Ty.TheVariants.{IntHigh, IntLow, Null, Class, Fresh}
use Rattle.jc_base.specs.Class.{ClassTable}
use Rattle.jc_base.specs.Order.{Below, same, joined, nothing, anything, null_object, null_array, subclass, array_object, array_array, IsArray, of_booleans}
use Rattle.jc_base.specs.Order.{of_bytes, of_shorts, of_ints, of_references}
use Rattle.jc_ops.specs.declared.operation.Want.{Want}
use Rattle.jc_ops.specs.declared.operation.Want.TheVariants.{Value}
use Rattle.jc_rules.specs.declared.demand.Demand.{Demand}
use Rattle.jc_rules.specs.declared.demand.Demand.TheVariants.{Registers, Depth, Cell, Cut, Held}
use Rattle.jc_rules.specs.declared.effect.Cells.{Cells}
use Rattle.jc_rules.specs.declared.effect.Cells.TheVariants as given
use Rattle.jc_rules.specs.declared.effect.Change.{Change}
use Rattle.jc_rules.specs.declared.effect.Change.TheVariants.{Replace, CopyUnder, Exchange, MakeReady}
use Rattle.jc_rules.specs.declared.effect.Effect.{Effect}
use Rattle.jc_rules.specs.Effect.{in_stack_order, ready, changed}
use Rattle.jc_rules.specs.Demand.{Frame, IsArrayOrNull, IsHalf, IsFreshOf, Meets, Splits, Satisfies, SatisfiesAll}
use Rattle.jc_rules.specs.Flow.{CellsBelow, no_cells, more_cells, IsNotFresh}
use Rattle.law_laid.specs.Laid.{renamed}

-- a type that is no uninitialised object
abbrev pub is_ready : Ty → Bool
is_ready (Fresh p c) = false
is_ready _ = true

-- a demand that names no uninitialised object
abbrev ready_want : Want → Bool
ready_want (Value ty) = is_ready ty
ready_want _ = true

abbrev pub ready_demand : Demand → Bool
ready_demand (Cell n want) = ready_want want
ready_demand (Held x ty) = is_ready ty
ready_demand _ = true

abbrev pub are_ready : List Demand → Bool
are_ready ds = list_all ready_demand ds

-- ---- the same apart from places

module _ (f : ℕ → ℕ) where
  array-stays : {a : Ty} → IsArray a → renamed f a ≡ a
  array-stays of_booleans = refl
  array-stays of_bytes = refl
  array-stays of_shorts = refl
  array-stays of_ints = refl
  array-stays of_references = refl

  pub below-renamed : (t : ClassTable) {a b : Ty} → Below t a b → Below t (renamed f a) (renamed f b)
  below-renamed t same = same
  below-renamed t (joined p q) = joined (below-renamed t p) (below-renamed t q)
  below-renamed t nothing = nothing
  below-renamed t anything = anything
  below-renamed t null_object = null_object
  below-renamed t (null_array {b = b} i) = subst (Below t Null) (sym (array-stays i)) (null_array i)
  below-renamed t (subclass e) = subclass e
  below-renamed t (array_object {a = a} {c = c} i e) = subst (λ x. Below t x (Class c)) (sym (array-stays i)) (array_object i e)
  below-renamed t (array_array p) = array_array (below-renamed t p)

  pub cells-renamed : (t : ClassTable) {xs ys : List Ty} → CellsBelow t xs ys → CellsBelow t (map (renamed f) xs) (map (renamed f) ys)
  cells-renamed t no_cells = no_cells
  cells-renamed t (more_cells le more) = more_cells (below-renamed t le) (cells-renamed t more)

  pub ready-stays : (ty : Ty) → is_ready ty ≡ true → renamed f ty ≡ ty
  ready-stays x e = grind (arith)

  pub regs-stay : (xs : List Ty) → All IsNotFresh xs → map (renamed f) xs ≡ xs
  regs-stay [] all = refl
  regs-stay (x ∷ xs) all =
      let first = by x (all 0 x (omega arith)) in
      let rest = regs-stay xs (λ k d lt. all (suc k) d (omega (arith, lt))) in
      cc
    where
      by : (x : Ty) → IsNotFresh x → renamed f x ≡ x
      by (Fresh p c) h = absurd h
      by _ h = refl

  abbrev pub frame_renamed : Frame → Frame
  frame_renamed g = record { regs = map (renamed f) g.regs; stack = map (renamed f) g.stack }

  -- ---- what is asked

  array-or-null : (ty : Ty) → IsArrayOrNull ty → IsArrayOrNull (renamed f ty)
  array-or-null x h = grind (arith)

  half-back : (ty : Ty) → IsHalf (renamed f ty) → IsHalf ty
  half-back x h = grind (arith)

  fresh-of : (c : ℕ) (ty : Ty) → IsFreshOf c ty → IsFreshOf c (renamed f ty)
  fresh-of c x h = grind (arith)

  value-renamed : (t : ClassTable) (found wanted : Ty) → is_ready wanted ≡ true → Below t found wanted → Below t (renamed f found) wanted
  value-renamed t found wanted r le = subst (Below t (renamed f found)) (ready-stays wanted r) (below-renamed t le)

  meets-renamed : (t : ClassTable) (want : Want) (found : Ty) → ready_want want ≡ true → Meets t want found → Meets t want (renamed f found)
  meets-renamed t x found r h = grind (arith, value-renamed, below-renamed, ⊎_elim, array-or-null, half-back, fresh-of)

  low-back : (ty : Ty) → renamed f ty ≡ IntLow → ty ≡ IntLow
  low-back x e = grind (arith)

  high-back : (ty : Ty) → renamed f ty ≡ IntHigh → ty ≡ IntHigh
  high-back x e = grind (arith)

  some-back : (half : Ty) → ((ty : Ty) → renamed f ty ≡ half → ty ≡ half) → (o : Option Ty) → option_map (renamed f) o ≡ Some half
      → o ≡ Some half
  some-back half back x e = grind (arith)

  at-renamed : (t : ClassTable) (want : Want) (r : ready_want want ≡ true) (o : Option Ty) → IsSomeAnd o (Meets t want)
      → IsSomeAnd (option_map (renamed f) o) (Meets t want)
  at-renamed t want r x h = grind (arith, meets-renamed)

  slice-renamed : (t : ClassTable) (want : Want) (r : ready_want want ≡ true) (xs : List Ty) (n : ℕ) → IsSomeAnd (slice_get xs n) (Meets t want)
      → IsSomeAnd (slice_get (map (renamed f) xs) n) (Meets t want)
  slice-renamed t want r xs n h = subst (λ o. IsSomeAnd o (Meets t want)) (sym (slice_get-map (renamed f) xs n)) (at-renamed t want r (slice_get xs n) h)

  splits-back : (xs : List Ty) (n : ℕ) → Splits (map (renamed f) xs) n → Splits xs n
  splits-back xs n s = grind (arith, some-back, low-back, slice_get, slice_get-map, high-back)

  holds-renamed : (t : ClassTable) (g : Frame) (d : Demand) → ready_demand d ≡ true → Satisfies t g d → Satisfies t (frame_renamed g) d
  holds-renamed t g (Registers x n) r h = omega (arith, h, length-map g.regs (renamed f))
  holds-renamed t g (Depth n) r h = omega (arith, h, length-map g.stack (renamed f))
  holds-renamed t g (Cell n want) r h = slice-renamed t want r g.stack n h
  holds-renamed t g (Cut n) r h = λ s. h (splits-back g.stack n s)
  holds-renamed t g (Held x ty) r h = slice-renamed t (Value ty) r g.regs x h

  pub all-renamed : (t : ClassTable) (g : Frame) (ds : List Demand) → are_ready ds ≡ true → SatisfiesAll t g ds → SatisfiesAll t (frame_renamed g) ds
  all-renamed t g [] r h = tt
  all-renamed t g (d ∷ ds) r h =
      let both = and_parts (ready_demand d) (are_ready ds) r in
      (holds-renamed t g d both.0 h.0, all-renamed t g ds both.1 h.1)

  -- ---- what is done

  abbrev pub given_renamed : Cells → Cells
  given_renamed (given.One ty) = given.One (renamed f ty)
  given_renamed cells = cells

  abbrev pub change_renamed : Change → Change
  change_renamed (Replace taken cells) = Replace taken (given_renamed cells)
  change_renamed (MakeReady taken place class cells) = MakeReady taken (f place) class (given_renamed cells)
  change_renamed change = change

  abbrev pub effect_renamed : Effect → Effect
  effect_renamed e = record { change = change_renamed e.change; store = record { register = e.store.register; cells = given_renamed e.store.cells } }

  listed-renamed : (cells : Cells) → in_stack_order (given_renamed cells) ≡ map (renamed f) (in_stack_order cells)
  listed-renamed x = grind (arith)

  module _ (one : (n k : ℕ) → f n ≡ f k → n ≡ k) where
    ready-alike : (place class : ℕ) (ty : Ty) → ready (f place) class (renamed f ty) ≡ renamed f (ready place class ty)
    ready-alike place class (Fresh p c) = by (p == place) (f p == f place) refl refl
      where
        by : (a b : Bool) → (p == place) ≡ a → (f p == f place) ≡ b → (if b then Class class else Fresh (f p) c)
            ≡ renamed f (if a then Class class else Fresh p c)
        by true true x y = refl
        by false false x y = refl
        by true false x y = let e : f p ≡ f place = ap f (eqb-true p place x) in absurd (grind (arith, nat_tests, e, y))
        by false true x y = let e : p ≡ place = one p place (eqb-true (f p) (f place) y) in absurd (grind (arith, nat_tests, e, x))
    ready-alike place class _ = refl

    all-ready-alike : (place class : ℕ) (xs : List Ty) → map (ready (f place) class) (map (renamed f) xs) ≡ map (renamed f) (map (ready place class) xs)
    all-ready-alike place class [] = refl
    all-ready-alike place class (x ∷ xs) = let a = ready-alike place class x in let b = all-ready-alike place class xs in cc

    pub changed-renamed : (change : Change) (xs : List Ty) → changed (change_renamed change) (map (renamed f) xs) ≡ map (renamed f) (changed change xs)
    changed-renamed (Replace taken cells) xs = grind (arith, listed-renamed, drop-map, map-append, drop)
    changed-renamed (CopyUnder copied under) xs = grind (arith, take-map, drop-map, map-append, take, drop)
    changed-renamed (Exchange top under) xs = grind (arith, drop-map, take-map, drop, map-append, take)
    changed-renamed (MakeReady taken place class cells) xs =
        let a = listed-renamed cells in
        let b = drop-map (renamed f) taken xs in
        let d = all-ready-alike place class (drop taken xs) in
        let e = map-append (renamed f) (in_stack_order cells) (map (ready place class) (drop taken xs)) in
        cc
