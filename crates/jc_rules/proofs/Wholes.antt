-- Operations keep stacks whole.
use Rattle.std.proofs.Common.{◌≡◌, ℕ, zero, suc, ◌+◌, ◌-◌, Bool, true, false, cond, ◌==◌, List, [], ◌∷◌, ◌++◌, length, rules}
use Rattle.std.proofs.Common.{take, drop, map, reverse, All, Option, Some, None, IsSomeAnd}
use Rattle.std.proofs.Common.{IfSome, slice_get, refl, sym, ◌∙◌, ap, subst, arith}
use Rattle.std.proofs.lemmas.List.{length-reverse, reverse-append, reverse-reverse}
use Rattle.jc_base.specs.declared.ty.Ty.{Ty}
use Rattle.jc_base.specs.declared.ty.Ty.TheVariants.{Bottom, Short, IntHigh, IntLow, Null, Class, ArrBool}
use Rattle.jc_base.specs.declared.ty.Ty.TheVariants.{ArrByte, ArrShort, ArrInt, ArrRef, Fresh, Top}
use Rattle.jc_base.specs.declared.ty.Kind.{Kind}
use Rattle.jc_base.specs.declared.ty.Kind.TheVariants as kinds
use Rattle.jc_base.specs.declared.record.MethodRec.{MethodRec}
use Rattle.jc_base.specs.Class.{ClassTable, object, throwable}
use Rattle.jc_base.specs.Order.{Below}
use Rattle.jc_base.specs.Cell.{IsDeclared, IsOfKind, IsNoHalf, IsFirstCell, AreWhole, no_cells, whole_int, one_cell}
use Rattle.jc_base.specs.Linked.{IsMethod}
use Rattle.jc_base.specs.World.{Linked, IsWorld}
use Rattle.jc_base.proofs.Lists.{All-slice_get, All-reverse, slice_get-drop}
use Rattle.jc_ops.specs.declared.operation.Want.{Want}
use Rattle.jc_ops.specs.declared.operation.Want.TheVariants.{Value, Storable, ByteArray, AnyArray, Whole, Receiver}
use Rattle.jc_ops.specs.declared.operation.Sort.{Sort}
use Rattle.jc_ops.specs.declared.operation.Sort.TheVariants as sorts
use Rattle.jc_ops.specs.declared.operation.Width.{Width}
use Rattle.jc_ops.specs.declared.operation.Width.TheVariants as widths
use Rattle.jc_ops.specs.declared.operation.Constant.{Constant}
use Rattle.jc_ops.specs.declared.operation.Constant.TheVariants as constants
use Rattle.jc_ops.specs.declared.operation.Move.{Move}
use Rattle.jc_ops.specs.declared.operation.Move.TheVariants as moves
use Rattle.jc_ops.specs.declared.operation.Arithmetic.{Arithmetic}
use Rattle.jc_ops.specs.declared.operation.Arithmetic.TheVariants as arithmetic
use Rattle.jc_ops.specs.declared.operation.Branch.{Branch}
use Rattle.jc_ops.specs.declared.operation.Branch.TheVariants as branches
use Rattle.jc_ops.specs.declared.operation.Holder.{Holder}
use Rattle.jc_ops.specs.declared.operation.Holder.TheVariants as holders
use Rattle.jc_ops.specs.declared.operation.TypeTest.{TypeTest}
use Rattle.jc_ops.specs.declared.operation.TypeTest.TheVariants as tests
use Rattle.jc_ops.specs.declared.operation.Operation.{Operation}
use Rattle.jc_ops.specs.declared.operation.Operation.TheVariants as ops
use Rattle.jc_ops.specs.declared.operation.Choice.{Choice}
use Rattle.jc_ops.specs.declared.operation.Callee.{Callee}
use Rattle.jc_ops.specs.Sound.{IsSound, IsNamedType, IsReceiverOf, IsChosen, IsCalleeOf, IsResult}
use Rattle.jc_rules.specs.declared.demand.Demand.{Demand}
use Rattle.jc_rules.specs.declared.demand.Demand.TheVariants.{Cell, Held}
use Rattle.jc_rules.specs.declared.effect.Cells.{Cells}
use Rattle.jc_rules.specs.declared.effect.Cells.TheVariants as given
use Rattle.jc_rules.specs.Effect.{in_stack_order, ready, changed}
use Rattle.jc_rules.specs.Demand.{Frame, IsHalf, Meets, Splits, SatisfiesAll}
use Rattle.jc_rules.specs.Rule.{constant_effect, load_demands, load_effect, store_demands}
use Rattle.jc_rules.specs.Rule.{store_effect, increment_effect, move_demands, move_effect}
use Rattle.jc_rules.specs.Rule.{arithmetic_demands, arithmetic_effect, array_read_demands}
use Rattle.jc_rules.specs.Rule.{array_read_effect, array_write_demands, array_write_effect}
use Rattle.jc_rules.specs.Rule.{branch_demands, branch_effect, field_read_demands, field_read_effect}
use Rattle.jc_rules.specs.Rule.{field_write_demands, field_write_effect, type_test_effect}
use Rattle.jc_rules.specs.Rule.{return_demands, return_effect, cell, number, two_numbers, size}
use Rattle.jc_rules.specs.Rule.{number_given, value_given, value_wanted, value_size, or_null}
use Rattle.jc_rules.specs.Rule.{element, array_wanted, a_reference, ready_with, cells_wanted, call_demands}
use Rattle.jc_rules.specs.Rule.{call_effect, result_given, args_at, result_at, seen}
use Rattle.jc_rules.specs.Rule.{demands, effect}
use Rattle.jc_rules.specs.Whole.{OperationKeepsWhole}
use Rattle.jc_rules.specs.Flow.{IsNotTop}
use Rattle.jc_rules.proofs.Falls.{low-up, LowUp, half-up}
use Rattle.jc_rules.proofs.RuleFalls.{some-or}
use Rattle.jc_rules.proofs.Demands.{SatisfiesAll-front, SatisfiesAll-rest, SatisfiesAll-append}
use Rattle.jc_rules.proofs.Types.{declared-not_top, no-half}

-- ---- lists

-- a stack, its top first: each low half of an int stands on its high half, and no half stands alone
data IsPaired : List Ty → Type 0 where
  paired_empty : IsPaired []
  paired_int : {s : List Ty} → IsPaired s → IsPaired (IntLow ∷ IntHigh ∷ s)
  paired_cell : {ty : Ty} {s : List Ty} → ¬ (IsHalf ty) → IsPaired s → IsPaired (ty ∷ s)

whole-append : {xs ys : List Ty} → IsPaired xs → IsPaired ys → IsPaired (xs ++ ys)
whole-append paired_empty h = h
whole-append (paired_int g) h = paired_int (whole-append g h)
whole-append (paired_cell n g) h = paired_cell n (whole-append g h)

-- the same from the bottom
half-not : (a : Ty) → ¬ (IsHalf a) → IsNoHalf a
half-not x n = grind (arith)

whole-join : {xs ys : List Ty} → AreWhole xs → AreWhole ys → AreWhole (xs ++ ys)
whole-join no_cells h = h
whole-join (whole_int g) h = whole_int (whole-join g h)
whole-join (one_cell n g) h = one_cell n (whole-join g h)

paired-from : {xs : List Ty} → AreWhole xs → IsPaired (reverse xs)
paired-from no_cells = paired_empty
paired-from (whole_int {types = xs} h) =
    subst IsPaired (sym (reverse-append (IntHigh ∷ IntLow ∷ []) xs)) (whole-append (paired-from h) (paired_int paired_empty))
paired-from (one_cell {a = a} {types = xs} n h) =
    subst IsPaired (sym (reverse-append (a ∷ []) xs)) (whole-append (paired-from h) (paired_cell (no-half a n) paired_empty))

whole-from : {s : List Ty} → IsPaired s → AreWhole (reverse s)
whole-from paired_empty = no_cells
whole-from (paired_int {s = s} h) = subst AreWhole (sym (reverse-append (IntLow ∷ IntHigh ∷ []) s)) (whole-join (whole-from h) (whole_int no_cells))
whole-from (paired_cell {ty = ty} {s = s} n h) =
    subst AreWhole (sym (reverse-append (ty ∷ []) s)) (whole-join (whole-from h) (one_cell (half-not ty n) no_cells))

whole-rest : {ty : Ty} {s : List Ty} → ¬ (IsHalf ty) → IsPaired (ty ∷ s) → IsPaired s
whole-rest n y = grind (arith)

-- the low half of an int stands at a place and the high half under it
Pair : List Ty → ℕ → Type 0
Pair s k = (slice_get s k ≡ Some IntLow) × (slice_get s (suc k) ≡ Some IntHigh)

record IsCut (s : List Ty) (n : ℕ) : Type 0 where
  front : IsPaired (take n s)
  rest : IsPaired (drop n s)

cut-after : {s : List Ty} → IsPaired s → (k : ℕ) → ¬ (Pair s k) → IsCut s (suc k)
unfolding Pair
cut-after paired_empty k n = record { front = paired_empty; rest = paired_empty }
cut-after (paired_int h) zero n = absurd (n (refl, refl))
cut-after (paired_int h) (suc zero) n = record { front = paired_int paired_empty; rest = h }
cut-after (paired_int h) (suc (suc k)) n = let c = cut-after h k n in record { front = paired_int c.front; rest = c.rest }
cut-after (paired_cell c h) zero n = record { front = paired_cell c paired_empty; rest = h }
cut-after (paired_cell c h) (suc k) n = let r = cut-after h k n in record { front = paired_cell c r.front; rest = r.rest }

cut-at : {s : List Ty} → IsPaired s → (n : ℕ) → ¬ (Splits s n) → IsCut s n
unfolding Pair
cut-at h zero n = record { front = paired_empty; rest = h }
cut-at {s = s} h (suc k) n = cut-after h k (λ p. n (subst (λ j. slice_get s j ≡ Some IntLow) (sym (before k)) p.0, p.1))
  where
    before : (k : ℕ) → suc k - 1 ≡ k
    before k = omega arith

-- a cut of what lies under another
cut-under : (s : List Ty) (n m : ℕ) → IsPaired (drop n s) → ¬ (Splits s (n + m)) → IsPaired (take m (drop n s))
cut-under s n zero h apart = paired_empty
cut-under s n (suc k) h apart =
    (cut-at h (suc k) (λ p. apart (
      subst (λ o. o ≡ Some IntLow) (slice_get-drop n (suc k - 1) s ∙ ap (slice_get s) (same_place n k)) p.0,
      subst (λ o. o ≡ Some IntHigh) (slice_get-drop n (suc k) s) p.1,
    ))).front
  where
    same_place : (n k : ℕ) → n + (suc k - 1) ≡ n + suc k - 1
    same_place n k = omega arith

ready-half : (place class : ℕ) (ty : Ty) → ¬ (IsHalf ty) → ¬ (IsHalf (ready place class ty))
ready-half place class (Fresh p c) n = at (p == place)
  where
    at : (b : Bool) → ¬ (IsHalf (cond b (Class class) (Fresh p c)))
    at true = λ h. h
    at false = λ h. h
ready-half place class Bottom n = n
ready-half place class Short n = n
ready-half place class IntHigh n = n
ready-half place class IntLow n = n
ready-half place class Null n = n
ready-half place class (Class c) n = n
ready-half place class ArrBool n = n
ready-half place class ArrByte n = n
ready-half place class ArrShort n = n
ready-half place class ArrInt n = n
ready-half place class (ArrRef c) n = n
ready-half place class Top n = n

whole-ready : (place class : ℕ) {s : List Ty} → IsPaired s → IsPaired (map (ready place class) s)
whole-ready place class paired_empty = paired_empty
whole-ready place class (paired_int h) = paired_int (whole-ready place class h)
whole-ready place class (paired_cell {ty = ty} n h) = paired_cell (ready-half place class ty n) (whole-ready place class h)

-- ---- what is wanted

-- no half of an int is as wanted
TakesNoHalf : Want → Type 0
TakesNoHalf (Value ty) = (¬ (IsHalf ty)) × IsNotTop ty
TakesNoHalf _ = Unit {0}

module _ (t : ClassTable) where
  below-half : (a b : Ty) → Below t a b → ¬ (IsHalf b) → IsNotTop b → ¬ (IsHalf a)
  below-half a b le n top = λ h. n (half-up t a le top h)

  met-half : (want : Want) (found : Ty) → TakesNoHalf want → Meets t want found → ¬ (IsHalf found)
  unfolding TakesNoHalf
  met-half x found h m = grind (arith, below-half)

  low-not_high : Below t IntLow IntHigh → ⊥
  unfolding LowUp
  low-not_high h = low-up t h tt

  -- an int on top goes as a whole
  int-rest : {a b : Ty} {s : List Ty} → Below t a IntLow → Below t b IntHigh → IsPaired (a ∷ b ∷ s) → IsPaired s
  int-rest p q (paired_int h) = h
  int-rest p q (paired_cell n h) = under q h
    where
      under : {b : Ty} {s : List Ty} → Below t b IntHigh → IsPaired (b ∷ s) → IsPaired s
      under q (paired_int h) = absurd (low-not_high q)
      under q (paired_cell n h) = h

  -- ---- cells that go

  peel-one : (s : List Ty) (n : ℕ) (want : Want) → TakesNoHalf want → IsSomeAnd (slice_get s n) (Meets t want) → IsPaired (drop n s)
      → IsPaired (drop (n + 1) s)
  peel-one [] n want k m h = absurd m
  peel-one (x ∷ s) zero want k m h = whole-rest (met-half want x k m) h
  peel-one (x ∷ s) (suc n) want k m h = grind (arith, suc, peel-one s n want k m h)

  int-top : (s : List Ty) → IsSomeAnd (slice_get s 0) (Meets t (Value IntLow)) → IsSomeAnd (slice_get s 1) (Meets t (Value IntHigh)) → IsPaired s
      → IsPaired (drop 2 s)
  int-top x m k h = grind (arith, int-rest)

  peel-int : (s : List Ty) (n : ℕ) → IsSomeAnd (slice_get s n) (Meets t (Value IntLow)) → IsSomeAnd (slice_get s (n + 1)) (Meets t (Value IntHigh))
      → IsPaired (drop n s) → IsPaired (drop (n + 2) s)
  peel-int s zero m k h = int-top s m k h
  peel-int [] (suc n) m k h = absurd m
  peel-int (x ∷ s) (suc n) m k h =
      let e : suc n + 2 ≡ suc (n + 2) = omega arith in
      let f : suc n + 1 ≡ suc (n + 1) = omega arith in
      subst (λ j. IsPaired (drop j (x ∷ s))) (sym e) (peel-int s n m (subst (λ j. IsSomeAnd (slice_get (x ∷ s) j) (Meets t (Value IntHigh))) f k) h)

  -- the type of a value that a frame has is no low half
  value-rest : (f : Frame) (ty : Ty) (rest : List Demand) → IsNotTop ty → ¬ (ty ≡ IntLow) → SatisfiesAll t f (value_wanted ty ++ rest)
      → IsPaired f.stack → IsPaired (drop (value_size ty) f.stack)
  unfolding TakesNoHalf
  value-rest f IntHigh rest top low all h = peel-int f.stack 0 all.0 all.1.0 h
  value-rest f IntLow rest top low all h = absurd (low refl)
  value-rest f Bottom rest top low all h = peel-one f.stack 0 (Value Bottom) ((λ k. k), tt) all.0 h
  value-rest f Short rest top low all h = peel-one f.stack 0 (Value Short) ((λ k. k), tt) all.0 h
  value-rest f Null rest top low all h = peel-one f.stack 0 (Value Null) ((λ k. k), tt) all.0 h
  value-rest f (Class c) rest top low all h = peel-one f.stack 0 (Value (Class c)) ((λ k. k), tt) all.0 h
  value-rest f ArrBool rest top low all h = peel-one f.stack 0 (Value ArrBool) ((λ k. k), tt) all.0 h
  value-rest f ArrByte rest top low all h = peel-one f.stack 0 (Value ArrByte) ((λ k. k), tt) all.0 h
  value-rest f ArrShort rest top low all h = peel-one f.stack 0 (Value ArrShort) ((λ k. k), tt) all.0 h
  value-rest f ArrInt rest top low all h = peel-one f.stack 0 (Value ArrInt) ((λ k. k), tt) all.0 h
  value-rest f (ArrRef c) rest top low all h = peel-one f.stack 0 (Value (ArrRef c)) ((λ k. k), tt) all.0 h
  value-rest f (Fresh p c) rest top low all h = peel-one f.stack 0 (Value (Fresh p c)) ((λ k. k), tt) all.0 h
  value-rest f Top rest top low all h = absurd top

  -- ---- cells that come

  whole-given : (ty : Ty) → ¬ (ty ≡ IntLow) → IsPaired (in_stack_order (value_given ty))
  whole-given x low = grind (arith, paired_int, paired_empty, paired_cell)

  whole-one : (ty : Ty) → ¬ (IsHalf ty) → IsPaired (in_stack_order (given.One ty))
  whole-one ty n = paired_cell n paired_empty

  short-one : IsPaired (in_stack_order (given.One Short))
  short-one = paired_cell (λ k. k) paired_empty

  whole-number : (width : Width) → IsPaired (in_stack_order (number_given width))
  whole-number x = grind (arith, short-one, paired_int, paired_empty)

  or_null-half : (ty : Ty) → ¬ (IsHalf ty) → ¬ (IsHalf (or_null ty))
  or_null-half x n = grind (arith)

  element-half : (ty : Ty) → ¬ (IsHalf (element ty))
  element-half x = grind (arith)

  seen-half : (ty : Ty) → IsNamedType t ty → ¬ (IsHalf (seen t ty))
  seen-half x h = grind (arith)

-- a field's first cell is no low half
kind-low : (k : Kind) (ty : Ty) → IsOfKind k ty → ¬ (ty ≡ IntLow)
kind-low x ty h = grind (arith)

-- the receiver of a call is no half of an int
receiver-of : (w : Linked) (m : MethodRec) (receiver : Option Want) → IsReceiverOf w m receiver → IfSome receiver TakesNoHalf
unfolding TakesNoHalf
receiver-of w m z h = grind (arith)

takes-class : (receiver : Option Want) (c : ℕ) → receiver ≡ Some (Value (Class c)) → IfSome receiver TakesNoHalf
unfolding TakesNoHalf
takes-class receiver c e = subst (λ o. IfSome o TakesNoHalf) (sym e) ((λ k. k), tt)

receiver-takes : (w : Linked) (n : ℕ) (m : MethodRec) (receiver : Option Want) (choice : Choice) → IsChosen w n m receiver choice
    → IfSome receiver TakesNoHalf
receiver-takes w n m receiver v h = grind (arith, takes-class, receiver-of)

-- what a receiver that is found makes ready leaves halves as they are
ready-keeps : (taken : ℕ) (cells : Cells) (found : Ty) (want : Want) (s : List Ty) → IsPaired (in_stack_order cells) → IsPaired (drop taken s)
    → IsPaired (changed (ready_with taken cells found want) s)
ready-keeps taken cells (Fresh p c) (Receiver d) s g h = whole-append g (whole-ready p d h)
ready-keeps taken cells (Fresh p c) (Value ty) s g h = whole-append g h
ready-keeps taken cells (Fresh p c) Storable s g h = whole-append g h
ready-keeps taken cells (Fresh p c) ByteArray s g h = whole-append g h
ready-keeps taken cells (Fresh p c) AnyArray s g h = whole-append g h
ready-keeps taken cells (Fresh p c) Whole s g h = whole-append g h
ready-keeps taken cells Bottom want s g h = whole-append g h
ready-keeps taken cells Short want s g h = whole-append g h
ready-keeps taken cells IntHigh want s g h = whole-append g h
ready-keeps taken cells IntLow want s g h = whole-append g h
ready-keeps taken cells Null want s g h = whole-append g h
ready-keeps taken cells (Class c) want s g h = whole-append g h
ready-keeps taken cells ArrBool want s g h = whole-append g h
ready-keeps taken cells ArrByte want s g h = whole-append g h
ready-keeps taken cells ArrShort want s g h = whole-append g h
ready-keeps taken cells ArrInt want s g h = whole-append g h
ready-keeps taken cells (ArrRef c) want s g h = whole-append g h
ready-keeps taken cells Top want s g h = whole-append g h

top-one : (t : ClassTable) (s : List Ty) → IsSomeAnd (slice_get s 0) (Meets t Whole) → IsPaired (take 1 s)
top-one t y m = grind (arith, paired_cell, paired_empty)

module _ (t : ClassTable) (f : Frame) (whole : IsPaired f.stack) where
  -- the arguments go
  peel-args : (tys : List Ty) (n : ℕ) → IsPaired tys → All IsNotTop tys → SatisfiesAll t f (cells_wanted n tys) → IsPaired (drop n f.stack)
      → IsPaired (drop (n + length tys) f.stack)
  unfolding TakesNoHalf
  peel-args _ n paired_empty top all h = let e : n + 0 ≡ n = omega arith in subst (λ j. IsPaired (drop j f.stack)) (sym e) h
  peel-args _ n (paired_int {s = rest} g) top all h =
      let two : n + 1 + 1 ≡ n + 2 = omega arith in
      let e : n + 1 + 1 + length rest ≡ n + suc (suc (length rest)) = omega arith in
      subst (λ j. IsPaired (drop j f.stack)) e
      (peel-args rest (n + 1 + 1) g (λ k d lt. top (suc (suc k)) d (omega arith)) all.1.1
      (subst (λ j. IsPaired (drop j f.stack)) (sym two) (peel-int t f.stack n all.0 all.1.0 h)))
  peel-args _ n (paired_cell {ty = ty} {s = rest} c g) top all h =
      let e : n + 1 + length rest ≡ n + suc (length rest) = omega arith in
      subst (λ j. IsPaired (drop j f.stack)) e
      (peel-args rest (n + 1) g (λ k d lt. top (suc k) d (omega arith)) all.1
      (peel-one t f.stack n (Value ty) (c, top 0 ty (omega arith)) all.0 h))

  args-rest : (args : List Ty) (ds : List Demand) → IsPaired (reverse args) → All IsNotTop (reverse args)
      → SatisfiesAll t f (cells_wanted 0 (reverse args) ++ ds) → IsPaired (drop (length args) f.stack)
  args-rest args ds g top all =
      let e : 0 + length (reverse args) ≡ length args = omega (arith, length-reverse args) in
      subst (λ j. IsPaired (drop j f.stack)) e (peel-args (reverse args) 0 g top (SatisfiesAll-front t f (cells_wanted 0 (reverse args)) ds all) whole)

  keep-call : (args : List Ty) (result : Option Ty) (receiver : Option Want) → IsPaired (reverse args) → All IsNotTop (reverse args)
      → IfSome result (λ ty. ¬ (ty ≡ IntLow)) → IfSome receiver TakesNoHalf
      → SatisfiesAll t f (call_demands args receiver) → IsPaired (changed (call_effect args result receiver f).change f.stack)
  keep-call args result None g top low k all = whole-append (result-whole result low) (args-rest args [] g top all)
    where
      result-whole : (o : Option Ty) → IfSome o (λ ty. ¬ (ty ≡ IntLow)) → IsPaired (in_stack_order (result_given o))
      result-whole None h = paired_empty
      result-whole (Some ty) h = whole-given t ty h
  keep-call args result (Some want) g top low k all =
      ready-keeps (length args + 1) (result_given result) (cell f.stack (length args)) want f.stack (result-whole result low)
      (peel-one t f.stack (length args) want k (SatisfiesAll-rest t f (cells_wanted 0 (reverse args)) (Cell (length args) want ∷ []) all).0
      (args-rest args (Cell (length args) want ∷ []) g top all))
    where
      result-whole : (o : Option Ty) → IfSome o (λ ty. ¬ (ty ≡ IntLow)) → IsPaired (in_stack_order (result_given o))
      result-whole None h = paired_empty
      result-whole (Some ty) h = whole-given t ty h

  -- ---- kinds

  one-gone : (want : Want) → TakesNoHalf want → IsSomeAnd (slice_get f.stack 0) (Meets t want) → IsPaired (drop 1 f.stack)
  one-gone want k m = peel-one t f.stack 0 want k m whole

  next-gone : (n : ℕ) (want : Want) → TakesNoHalf want → IsSomeAnd (slice_get f.stack n) (Meets t want) → IsPaired (drop n f.stack)
      → IsPaired (drop (n + 1) f.stack)
  next-gone n want k m h = peel-one t f.stack n want k m h

  a_short : TakesNoHalf (Value Short)
  unfolding TakesNoHalf
  a_short = ((λ k. k), tt)

  a_class : (c : ℕ) → TakesNoHalf (Value (Class c))
  unfolding TakesNoHalf
  a_class c = ((λ k. k), tt)

  an_array : (k : Kind) → TakesNoHalf (array_wanted t k)
  unfolding TakesNoHalf
  an_array x = grind (arith)

  plain_want : TakesNoHalf Storable × TakesNoHalf AnyArray × TakesNoHalf Whole
  unfolding TakesNoHalf
  plain_want = (tt, tt, tt)

  number-gone : (width : Width) → SatisfiesAll t f (number width 0) → IsPaired (drop (size width) f.stack)
  number-gone x all = grind (arith, one-gone, a_short, peel-int)

  two-gone : (width : Width) → SatisfiesAll t f (two_numbers width) → IsPaired (drop (size width + size width) f.stack)
  two-gone x all = grind (arith, next-gone, a_short, one-gone, peel-int)

  keep-move : (m : Move) → SatisfiesAll t f (move_demands m) → IsPaired (changed (move_effect m).change f.stack)
  keep-move moves.Pop all = one-gone Whole plain_want.2 all.0
  keep-move moves.PopTwo all = (cut-at whole 2 all.1.0).rest
  keep-move moves.Duplicate all = whole-append (top-one t f.stack all.0) whole
  keep-move moves.DuplicateTwo all = whole-append (cut-at whole 2 all.1.0).front whole
  keep-move (moves.CopyUnder m n) (deep, (cut, (deep_under, (cut_under, done)))) =
      let a = cut-at whole m cut in
      let b = cut-at whole n cut_under in
      whole-append b.front (whole-append a.front b.rest)
  keep-move (moves.Exchange m n) (deep, (cut, (deep_under, (cut_under, done)))) =
      let a = cut-at whole m cut in
      let b = cut-at whole (m + n) cut_under in
      whole-append (cut-under f.stack m n a.rest cut_under) (whole-append a.front b.rest)

  keep-arithmetic : (a : Arithmetic) → SatisfiesAll t f (arithmetic_demands a) → IsPaired (changed (arithmetic_effect a).change f.stack)
  keep-arithmetic (arithmetic.Binary o widths.Short) all = whole-append (short-one t) (two-gone widths.Short all)
  keep-arithmetic (arithmetic.Binary o widths.Int) all = whole-append (whole-number t widths.Int) (two-gone widths.Int all)
  keep-arithmetic (arithmetic.Negate width) all = whole-append (whole-number t width) (number-gone width all)
  keep-arithmetic arithmetic.ShortToByte all = whole-append (short-one t) (number-gone widths.Short all)
  keep-arithmetic arithmetic.ShortToInt all = whole-append (whole-number t widths.Int) (number-gone widths.Short all)
  keep-arithmetic arithmetic.IntToByte all = whole-append (short-one t) (number-gone widths.Int all)
  keep-arithmetic arithmetic.IntToShort all = whole-append (short-one t) (number-gone widths.Int all)
  keep-arithmetic arithmetic.CompareInts all = whole-append (short-one t) (two-gone widths.Int all)

  keep-array_read : (k : Kind) → SatisfiesAll t f (array_read_demands t k) → IsPaired (changed (array_read_effect k f).change f.stack)
  keep-array_read kinds.Ref all =
      whole-append (whole-one t (element (cell f.stack 1)) (element-half t (cell f.stack 1)))
      (next-gone 1 (array_wanted t kinds.Ref) (an_array kinds.Ref) all.1.0 (one-gone (Value Short) a_short all.0))
  keep-array_read kinds.Byte all =
      whole-append (short-one t) (next-gone 1 (array_wanted t kinds.Byte) (an_array kinds.Byte) all.1.0 (one-gone (Value Short) a_short all.0))
  keep-array_read kinds.Short all =
      whole-append (short-one t) (next-gone 1 (array_wanted t kinds.Short) (an_array kinds.Short) all.1.0 (one-gone (Value Short) a_short all.0))
  keep-array_read kinds.Int all =
      whole-append (whole-number t widths.Int) (next-gone 1 (array_wanted t kinds.Int) (an_array kinds.Int) all.1.0 (one-gone (Value Short) a_short all.0))

  keep-array_write : (k : Kind) → SatisfiesAll t f (array_write_demands t k) → IsPaired (changed (array_write_effect k).change f.stack)
  keep-array_write kinds.Ref all =
      next-gone 2 (array_wanted t kinds.Ref) (an_array kinds.Ref) all.1.1.0
      (next-gone 1 (Value Short) a_short all.1.0 (one-gone (a_reference t) (a_class (object t)) all.0))
  keep-array_write kinds.Byte all =
      next-gone 2 (array_wanted t kinds.Byte) (an_array kinds.Byte) all.1.1.0
      (next-gone 1 (Value Short) a_short all.1.0 (one-gone (Value Short) a_short all.0))
  keep-array_write kinds.Short all =
      next-gone 2 (array_wanted t kinds.Short) (an_array kinds.Short) all.1.1.0
      (next-gone 1 (Value Short) a_short all.1.0 (one-gone (Value Short) a_short all.0))
  keep-array_write kinds.Int (low, (high, (index, (array, done)))) =
      next-gone 3 (array_wanted t kinds.Int) (an_array kinds.Int) array
      (next-gone 2 (Value Short) a_short index (peel-int t f.stack 0 low high whole))

  keep-branch : (b : Branch) → SatisfiesAll t f (branch_demands t b) → IsPaired (changed (branch_effect b).change f.stack)
  keep-branch branches.Always all = whole
  keep-branch (branches.Zero o) all = one-gone (Value Short) a_short all.0
  keep-branch (branches.Null q) all = one-gone (a_reference t) (a_class (object t)) all.0
  keep-branch (branches.References q) all = next-gone 1 (a_reference t) (a_class (object t)) all.1.0 (one-gone (a_reference t) (a_class (object t)) all.0)
  keep-branch (branches.Shorts o) all = two-gone widths.Short all

  keep-constant : (c : Constant) → IsPaired (changed (constant_effect c).change f.stack)
  keep-constant constants.Nothing = whole
  keep-constant constants.Null = whole-append (whole-one t Null (λ k. k)) whole
  keep-constant (constants.Short n) = whole-append (short-one t) whole
  keep-constant (constants.Int n) = whole-append (whole-number t widths.Int) whole

  keep-load : (s : Sort) (x : ℕ) → SatisfiesAll t f (load_demands t s x) → IsPaired (changed (load_effect s x f).change f.stack)
  keep-load sorts.Reference x all = search (rules, whole-append, whole-one, or_null-half, below-half, some-or)
  keep-load sorts.Short x all = whole-append (short-one t) whole
  keep-load sorts.Int x all = whole-append (whole-number t widths.Int) whole

  keep-store : (s : Sort) (x : ℕ) → SatisfiesAll t f (store_demands s x) → IsPaired (changed (store_effect s x f).change f.stack)
  keep-store x x2 all = grind (arith, one-gone, plain_want, a_short, peel-int)

  keep-increment : (width : Width) (x : ℕ) → IsPaired (changed (increment_effect width x).change f.stack)
  keep-increment x x2 = grind (arith)

  value-gone : (ty : Ty) (rest : List Demand) → IsNotTop ty → ¬ (ty ≡ IntLow) → SatisfiesAll t f (value_wanted ty ++ rest)
      → IsPaired (drop (value_size ty) f.stack)
  value-gone ty rest top low all = value-rest t f ty rest top low all whole

  keep-read : (h : Holder) (c : ℕ) (ty : Ty) → ¬ (ty ≡ IntLow) → SatisfiesAll t f (field_read_demands h c)
      → IsPaired (changed (field_read_effect h ty).change f.stack)
  keep-read holders.Stack c ty low all = whole-append (whole-given t ty low) (one-gone (Value (Class c)) (a_class c) all.0)
  keep-read holders.This c ty low all = whole-append (whole-given t ty low) whole

  keep-write : (h : Holder) (c : ℕ) (ty : Ty) → IsNotTop ty → ¬ (ty ≡ IntLow) → SatisfiesAll t f (field_write_demands h c ty)
      → IsPaired (changed (field_write_effect h ty).change f.stack)
  keep-write holders.Stack c ty top low all =
      next-gone (value_size ty) (Value (Class c)) (a_class c) (SatisfiesAll-rest t f (value_wanted ty) (Cell (value_size ty) (Value (Class c)) ∷ []) all).0
      (value-gone ty (Cell (value_size ty) (Value (Class c)) ∷ []) top low all)
  keep-write holders.This c ty top low all = value-gone ty (Held 0 (Class c) ∷ []) top low all.1

  keep-test : (test : TypeTest) (ty : Ty) → ¬ (IsHalf ty) → IsPaired (drop 1 f.stack) → IsPaired (changed (type_test_effect test ty).change f.stack)
  keep-test tests.Cast ty n h = whole-append (whole-one t ty n) h
  keep-test tests.InstanceOf ty n h = whole-append (short-one t) h

-- ---- operations

declared-args : (w : Linked) (m : MethodRec) → IsMethod w.infos w.pools w.classes m → All IsNotTop (reverse m.sig.args)
declared-args w m is = λ k d lt. declared-not_top w.classes _ (All-reverse (IsDeclared w.classes) m.sig.args is.arguments k d lt)

-- the first cell of a result is no low half
first-no_low : (result : Option Ty) → IfSome result IsFirstCell → IfSome result (λ ty. ¬ (ty ≡ IntLow))
first-no_low x h = grind (arith)

module _ (w : Linked) (is : IsWorld w) (f : Frame) (whole : IsPaired f.stack) (m : MethodRec) (place : ℕ) where
  keep-called : (c : Callee) (o : Option MethodRec) → slice_get w.methods c.method ≡ o → IsCalleeOf w c
      → SatisfiesAll w.classes f (call_demands (args_at o) c.receiver)
      → IsPaired (changed (call_effect (args_at o) (result_at o) c.receiver f).change f.stack)
  keep-called c None e h all = absurd (no-method (h.is_method) e)
    where
      no-method : slice_get w.methods c.method ≡ Some h.rec → slice_get w.methods c.method ≡ None → ⊥
      no-method p q = absurd (cc)
  keep-called c (Some r) e h all =
      let method : IsMethod w.infos w.pools w.classes r = All-slice_get (IsMethod w.infos w.pools w.classes) w.methods c.method r is.methods e in
      keep-call w.classes f whole r.sig.args r.sig.result c.receiver (paired-from method.whole) (declared-args w r method)
      (first-no_low r.sig.result method.first) (receiver-takes w c.method h.rec c.receiver c.choice h.chosen) all

  keep-return : (result : Option Ty) → IfSome result (IsResult w.classes) → SatisfiesAll w.classes f (return_demands result)
      → IsPaired (changed (return_effect result).change f.stack)
  keep-return None h all = whole
  keep-return (Some ty) h all =
      value-gone w.classes f whole ty [] (declared-not_top w.classes ty h.declared) h.no_low (SatisfiesAll-append w.classes f (value_wanted ty) [] all tt)

  keeps-whole : (op : Operation) → IsSound w m place op → SatisfiesAll w.classes f (demands w op) → IsPaired (changed (effect w op f).change f.stack)
  keeps-whole (ops.Constant c) sound all = keep-constant w.classes f whole c
  keeps-whole (ops.Load s x) sound all = keep-load w.classes f whole s x all
  keeps-whole (ops.Store s x) sound all = keep-store w.classes f whole s x all
  keeps-whole (ops.Increment width x amount) sound all = keep-increment w.classes f whole width x
  keeps-whole (ops.Move move) sound all = keep-move w.classes f whole move all
  keeps-whole (ops.Arithmetic a) sound all = keep-arithmetic w.classes f whole a all
  keeps-whole (ops.ArrayRead k) sound all = keep-array_read w.classes f whole k all
  keeps-whole (ops.ArrayWrite k) sound all = keep-array_write w.classes f whole k all
  keeps-whole ops.ArrayLength sound all = whole-append (short-one w.classes) (one-gone w.classes f whole AnyArray (plain_want w.classes f whole).1 all.0)
  keeps-whole (ops.Branch b) sound all = keep-branch w.classes f whole b all
  keeps-whole (ops.Switch width) sound all = number-gone w.classes f whole width all
  keeps-whole (ops.StaticRead field) sound all = whole-append (whole-given w.classes field.ty (kind-low field.kind field.ty sound.kind)) whole
  keeps-whole (ops.StaticWrite field) sound all =
      value-gone w.classes f whole field.ty [] (declared-not_top w.classes field.ty sound.ty) (kind-low field.kind field.ty sound.kind)
      (SatisfiesAll-append w.classes f (value_wanted field.ty) [] all tt)
  keeps-whole (ops.FieldRead field h) sound all = keep-read w.classes f whole h field.class field.ty (kind-low field.kind field.ty sound.cells.kind) all
  keeps-whole (ops.FieldWrite field h) sound all =
      keep-write w.classes f whole h field.class field.ty (declared-not_top w.classes field.ty sound.ty) (kind-low field.kind field.ty sound.cells.kind) all
  keeps-whole (ops.Call c) sound all = keep-called c (slice_get w.methods c.method) refl sound all
  keeps-whole (ops.New p c) sound all = whole-append (whole-one w.classes (Fresh p c) (λ k. k)) whole
  keeps-whole (ops.NewArray ty) sound all =
      whole-append (whole-one w.classes (seen w.classes ty) (seen-half w.classes ty sound.1))
      (one-gone w.classes f whole (Value Short) (a_short w.classes f whole) all.0)
  keeps-whole ops.Throw sound all = one-gone w.classes f whole (Value (Class (throwable w.classes))) (a_class w.classes f whole (throwable w.classes)) all.0
  keeps-whole (ops.TypeTest test ty) sound all =
      keep-test w.classes f whole test (seen w.classes ty) (seen-half w.classes ty sound)
      (one-gone w.classes f whole (a_reference w.classes) (a_class w.classes f whole (object w.classes)) all.0)
  keeps-whole (ops.Return result) sound all = keep-return result sound.1 all

pub operation-keeps-whole : (w : Linked) → IsWorld w → OperationKeepsWhole w
operation-keeps-whole w is limit m place op mode before after o sound whole a =
    grind (arith, reverse-reverse, paired-from, whole-from, keeps-whole)
