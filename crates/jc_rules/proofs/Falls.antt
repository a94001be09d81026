-- What lies below and above types, and what an operation asks and does at a lesser frame: it asks less, and does what is lesser.
use Rattle.std.proofs.Common.{◌≡◌, ℕ, ◌+◌, ◌-◌, ◌≤◌, inl, inr, List, [], ◌∷◌, map, arith}
use Rattle.std.proofs.Common.{set, Option, Some, None, IsSomeAnd, IfSome, slice_get, refl, sym, ◌∙◌, ap, subst}
use Rattle.std.specs.Bool.{⊤}
use Rattle.jc_base.specs.declared.ty.Ty.{Ty}
use Rattle.jc_base.specs.declared.ty.Ty.TheVariants.{Bottom, Short, IntHigh, IntLow, Null, Class, ArrBool}
use Rattle.jc_base.specs.declared.ty.Ty.TheVariants.{ArrByte, ArrShort, ArrInt, ArrRef, Fresh, Top}
use Rattle.jc_base.specs.Class.{ClassTable}
use Rattle.jc_base.specs.Laws.{IsOrderOfTypes}
use Rattle.jc_base.specs.Order.{Below, same, joined, nothing, anything, null_object}
use Rattle.jc_base.specs.Order.{null_array, subclass, array_object, array_array, of_booleans, of_bytes}
use Rattle.jc_base.specs.Order.{of_shorts, of_ints, of_references, is_below}
use Rattle.jc_rules.proofs.Types.{below-computed, below-told}
use Rattle.jc_ops.specs.declared.operation.Want.{Want}
use Rattle.jc_ops.specs.declared.operation.Want.TheVariants.{Value, Storable, ByteArray, AnyArray, Whole, Receiver}
use Rattle.jc_rules.specs.declared.demand.Demand.{Demand}
use Rattle.jc_rules.specs.declared.demand.Demand.TheVariants.{Registers, Depth, Cell, Cut, Held}
use Rattle.jc_rules.specs.declared.effect.Cells.{Cells}
use Rattle.jc_rules.specs.declared.effect.Cells.TheVariants as given
use Rattle.jc_rules.specs.declared.effect.Change.{Change}
use Rattle.jc_rules.specs.declared.effect.Change.TheVariants.{Replace, CopyUnder, Exchange, MakeReady}
use Rattle.jc_rules.specs.declared.effect.Effect.{Effect}
use Rattle.jc_rules.specs.declared.effect.RegisterStore.{RegisterStore}
use Rattle.jc_rules.specs.declared.effect.Mode.{Mode}
use Rattle.jc_rules.specs.declared.effect.Mode.TheVariants.{Card, Flow}
use Rattle.jc_rules.specs.Effect.{in_stack_order, ready, changed, reg, IsStoredOver, WritesRegister, WritesCells, StoresInRegisters}
use Rattle.jc_rules.specs.Demand.{Frame, IsArrayOrNull, IsHalf, IsFreshOf, Meets, Satisfies, SatisfiesAll}
use Rattle.jc_rules.specs.Rule.{or_null, element, ready_with}
use Rattle.jc_rules.specs.Flow.{CellsBelow, no_cells, more_cells, IsNotTop, IsNotFresh}
use Rattle.jc_rules.specs.Laws.{IsNotBottom}
use Rattle.jc_rules.proofs.CellLists.{Each, each-at, PairAt, cells-at, cells-length, cells-same, cells-append, cells-take, cells-drop}
use Rattle.jc_rules.proofs.CellLists.{cells-set}

-- ---- what lies below and above

-- IntLow and what is above it, IntHigh and what is above it
unfoldable pub LowUp : Ty → Type 0
LowUp IntLow = ⊤
LowUp Top = ⊤
LowUp _ = ⊥

HighUp : Ty → Type 0
HighUp IntHigh = ⊤
HighUp Top = ⊤
HighUp _ = ⊥

-- what is below an uninitialised object
FreshDown : ℕ → ℕ → Ty → Type 0
FreshDown p c Bottom = ⊤
FreshDown p c (Fresh q d) = (q ≡ p) × (d ≡ c)
FreshDown p c _ = ⊥

-- what is above an uninitialised object
FreshUp : ℕ → ℕ → Ty → Type 0
FreshUp p c Top = ⊤
FreshUp p c (Fresh q d) = (q ≡ p) × (d ≡ c)
FreshUp p c _ = ⊥

-- Bottom and Null
IsNullDown : Ty → Type 0
IsNullDown Bottom = ⊤
IsNullDown Null = ⊤
IsNullDown _ = ⊥

-- what is below class object
unfoldable pub ReferenceDown : Ty → Type 0
ReferenceDown Bottom = ⊤
ReferenceDown Null = ⊤
ReferenceDown (Class c) = ⊤
ReferenceDown ArrBool = ⊤
ReferenceDown ArrByte = ⊤
ReferenceDown ArrShort = ⊤
ReferenceDown ArrInt = ⊤
ReferenceDown (ArrRef c) = ⊤
ReferenceDown _ = ⊥

-- what is below an array of references
unfoldable pub ReferencesDown : Ty → Type 0
ReferencesDown Bottom = ⊤
ReferencesDown Null = ⊤
ReferencesDown (ArrRef c) = ⊤
ReferencesDown _ = ⊥

module _ (t : ClassTable) where
  pub low-up : {a b : Ty} → Below t a b → LowUp a → LowUp b
  unfolding LowUp
  low-up same h = h
  low-up (joined p q) h = low-up q (low-up p h)
  low-up nothing h = absurd h
  low-up anything h = tt
  low-up null_object h = absurd h
  low-up (null_array i) h = absurd h
  low-up (subclass e) h = absurd h
  low-up (array_object of_booleans e) h = absurd h
  low-up (array_object of_bytes e) h = absurd h
  low-up (array_object of_shorts e) h = absurd h
  low-up (array_object of_ints e) h = absurd h
  low-up (array_object of_references e) h = absurd h
  low-up (array_array p) h = absurd h

  high-up : {a b : Ty} → Below t a b → HighUp a → HighUp b
  unfolding HighUp
  high-up same h = h
  high-up (joined p q) h = high-up q (high-up p h)
  high-up nothing h = absurd h
  high-up anything h = tt
  high-up null_object h = absurd h
  high-up (null_array i) h = absurd h
  high-up (subclass e) h = absurd h
  high-up (array_object of_booleans e) h = absurd h
  high-up (array_object of_bytes e) h = absurd h
  high-up (array_object of_shorts e) h = absurd h
  high-up (array_object of_ints e) h = absurd h
  high-up (array_object of_references e) h = absurd h
  high-up (array_array p) h = absurd h

  fresh-down : (p c : ℕ) {a b : Ty} → Below t a b → FreshDown p c b → FreshDown p c a
  unfolding FreshDown
  fresh-down p c same h = h
  fresh-down p c (joined x y) h = fresh-down p c x (fresh-down p c y h)
  fresh-down p c nothing h = tt
  fresh-down p c anything h = absurd h
  fresh-down p c null_object h = absurd h
  fresh-down p c (null_array of_booleans) h = absurd h
  fresh-down p c (null_array of_bytes) h = absurd h
  fresh-down p c (null_array of_shorts) h = absurd h
  fresh-down p c (null_array of_ints) h = absurd h
  fresh-down p c (null_array of_references) h = absurd h
  fresh-down p c (subclass e) h = absurd h
  fresh-down p c (array_object i e) h = absurd h
  fresh-down p c (array_array x) h = absurd h

  fresh-up : (p c : ℕ) {a b : Ty} → Below t a b → FreshUp p c a → FreshUp p c b
  unfolding FreshUp
  fresh-up p c same h = h
  fresh-up p c (joined x y) h = fresh-up p c y (fresh-up p c x h)
  fresh-up p c nothing h = absurd h
  fresh-up p c anything h = tt
  fresh-up p c null_object h = absurd h
  fresh-up p c (null_array i) h = absurd h
  fresh-up p c (subclass e) h = absurd h
  fresh-up p c (array_object of_booleans e) h = absurd h
  fresh-up p c (array_object of_bytes e) h = absurd h
  fresh-up p c (array_object of_shorts e) h = absurd h
  fresh-up p c (array_object of_ints e) h = absurd h
  fresh-up p c (array_object of_references e) h = absurd h
  fresh-up p c (array_array x) h = absurd h

  pub reference-down : {a b : Ty} → Below t a b → ReferenceDown b → ReferenceDown a
  unfolding ReferenceDown
  reference-down same h = h
  reference-down (joined x y) h = reference-down x (reference-down y h)
  reference-down nothing h = tt
  reference-down anything h = absurd h
  reference-down null_object h = tt
  reference-down (null_array i) h = tt
  reference-down (subclass e) h = tt
  reference-down (array_object of_booleans e) h = tt
  reference-down (array_object of_bytes e) h = tt
  reference-down (array_object of_shorts e) h = tt
  reference-down (array_object of_ints e) h = tt
  reference-down (array_object of_references e) h = tt
  reference-down (array_array x) h = tt

  pub references-down : {a b : Ty} → Below t a b → ReferencesDown b → ReferencesDown a
  unfolding ReferencesDown
  references-down same h = h
  references-down (joined x y) h = references-down x (references-down y h)
  references-down nothing h = tt
  references-down anything h = absurd h
  references-down null_object h = absurd h
  references-down (null_array i) h = tt
  references-down (subclass e) h = absurd h
  references-down (array_object i e) h = absurd h
  references-down (array_array x) h = tt

  array-down : {a b : Ty} → Below t a b → IsArrayOrNull b → IsArrayOrNull a
  array-down same h = h
  array-down (joined x y) h = array-down x (array-down y h)
  array-down nothing h = tt
  array-down anything h = absurd h
  array-down null_object h = tt
  array-down (null_array i) h = tt
  array-down (subclass e) h = absurd h
  array-down (array_object i e) h = absurd h
  array-down (array_array x) h = tt

low_is : (b : Ty) → LowUp b → IsNotTop b → b ≡ IntLow
unfolding LowUp
low_is x h n = grind (arith)

plain_with : (taken : ℕ) (cells : Cells) (want : Want) (a : Ty) → IsNotFresh a → ready_with taken cells a want ≡ Replace taken cells
unfolding IsNullDown
plain_with taken cells want u h = grind (arith)

plain_both : (taken : ℕ) (cells : Cells) (c : ℕ) (a b : Ty) → IsNotFresh a → IsNotFresh b → ready_with taken cells a (Receiver c)
    ≡ ready_with taken cells b (Receiver c)
plain_both taken cells c a b h k = plain_with taken cells (Receiver c) a h ∙ sym (plain_with taken cells (Receiver c) b k)

NotReceiver : Want → Type 0
NotReceiver (Receiver c) = ⊥
NotReceiver _ = ⊤

replaced : (taken : ℕ) (cells : Cells) (want : Want) (a : Ty) → NotReceiver want → ready_with taken cells a want ≡ Replace taken cells
unfolding NotReceiver
replaced taken cells want a h = grind (arith)

not_receiver : (taken : ℕ) (cells : Cells) (want : Want) (a b : Ty) → NotReceiver want → ready_with taken cells a want ≡ ready_with taken cells b want
not_receiver taken cells want a b h = replaced taken cells want a h ∙ sym (replaced taken cells want b h)

plain_under : (q d : ℕ) (a : Ty) → IsNotFresh a → FreshDown q d a → a ≡ Bottom
unfolding FreshDown
plain_under q d z h k = grind (arith)

module _ (t : ClassTable) where
  low_above : {b : Ty} → Below t IntLow b → IsNotTop b → b ≡ IntLow
  unfolding LowUp
  low_above {b = b} p n = low_is b (low-up t p tt) n

  high_above : {b : Ty} → Below t IntHigh b → IsNotTop b → b ≡ IntHigh
  unfolding HighUp
  high_above {b = b} p n = grind (arith, high-up)

  pub half-up : (a : Ty) {b : Ty} → Below t a b → IsNotTop b → IsHalf a → IsHalf b
  half-up x p n h = grind (arith, high_above, low_above)

  fresh_at : (p c : ℕ) (a : Ty) → FreshDown p c a → IsNotBottom a → a ≡ Fresh p c
  unfolding FreshDown
  fresh_at p c z h n = grind (arith)

  fresh_below : (p c : ℕ) {a : Ty} → Below t a (Fresh p c) → IsNotBottom a → a ≡ Fresh p c
  unfolding FreshDown
  fresh_below p c {a = a} x n = fresh_at p c a (fresh-down t p c x (refl, refl)) n

  receiver-falls : (c : ℕ) (a b : Ty) → Below t a b → IsNotBottom a → IsFreshOf c b → IsFreshOf c a
  receiver-falls c a z x n h = grind (arith, fresh_below)

  meets-falls : (want : Want) (a b : Ty) → Below t a b → IsNotBottom a → IsNotTop b → Meets t want b → Meets t want a
  meets-falls (Value ty) a b p nb nt h = joined p h
  meets-falls Storable a b p nb nt h = joined p h
  meets-falls ByteArray a b p nb nt (inl h) = inl (joined p h)
  meets-falls ByteArray a b p nb nt (inr h) = inr (joined p h)
  meets-falls AnyArray a b p nb nt h = array-down t p h
  meets-falls Whole a b p nb nt h = λ half. h (half-up a p nt half)
  meets-falls (Receiver c) a b p nb nt (inl h) = inl (receiver-falls c a b p nb h)
  meets-falls (Receiver c) a b p nb nt (inr h) = inr (joined p h)

  pub plain_class : {d : ℕ} (a : Ty) → Below t a (Class d) → IsNotFresh a
  unfolding ReferenceDown
  plain_class x x2 = grind (arith, reference-down)

  pub top_not_below_class : {d : ℕ} → Below t Top (Class d) → ⊥
  unfolding ReferenceDown
  top_not_below_class x = reference-down t x tt

  -- below an uninitialised object is nothing else but Bottom
  pub fresh_is_bottom : (p c : ℕ) (a : Ty) → IsNotFresh a → Below t a (Fresh p c) → a ≡ Bottom
  unfolding FreshDown
  fresh_is_bottom p c a n x = plain_under p c a n (fresh-down t p c x (refl, refl))

  pub fresh_not_below_bottom : (p c : ℕ) → Below t (Fresh p c) Bottom → ⊥
  unfolding FreshUp
  fresh_not_below_bottom p c x = fresh-up t p c x (refl, refl)

-- below Bottom is nothing else
pub bottom-least : (t : ClassTable) (are : IsOrderOfTypes t) (a : Ty) → Below t a Bottom → Bottom ≡ a
unfolding is_below
bottom-least t are z h = grind (arith, below-computed)

-- ---- demands

module _ (t : ClassTable) where
  cell-falls : (want : Want) (o p : Option Ty) → PairAt t o p → IfSome o IsNotBottom → IfSome p IsNotTop → IsSomeAnd p (Meets t want)
      → IsSomeAnd o (Meets t want)
  unfolding PairAt
  cell-falls want y z x nb nt h = grind (arith, meets-falls)

  held-falls : (ty : Ty) (o p : Option Ty) → PairAt t o p → IsSomeAnd p (λ b. Below t b ty) → IsSomeAnd o (λ a. Below t a ty)
  unfolding PairAt
  held-falls ty (Some a) (Some b) x h = joined x h
  held-falls ty None (Some b) x h = absurd x
  held-falls ty None None x h = absurd h
  held-falls ty (Some a) None x h = absurd h

  low-read : (o p : Option Ty) → PairAt t o p → IfSome p IsNotTop → o ≡ Some IntLow → p ≡ Some IntLow
  unfolding PairAt
  low-read x p x2 n e = grind (arith, low_above)

  high-read : (o p : Option Ty) → PairAt t o p → IfSome p IsNotTop → o ≡ Some IntHigh → p ≡ Some IntHigh
  unfolding PairAt
  high-read x p x2 n e = grind (arith, high_above)

  -- f is the lesser frame, g the greater
  module _ (f g : Frame) (regs : CellsBelow t f.regs g.regs) (stack : CellsBelow t f.stack g.stack) (no_top : Each IsNotTop g.stack)
      (no_bottom : Each IsNotBottom f.stack) where
    holds-falls : (d : Demand) → Satisfies t g d → Satisfies t f d
    holds-falls (Registers x n) h = subst (λ k. x + n ≤ k) (sym (cells-length t regs)) h
    holds-falls (Depth n) h = subst (λ k. n ≤ k) (sym (cells-length t stack)) h
    holds-falls (Cell n want) h =
        cell-falls want (slice_get f.stack n) (slice_get g.stack n) (cells-at t n stack) (each-at IsNotBottom f.stack n no_bottom)
        (each-at IsNotTop g.stack n no_top) h
    holds-falls (Cut n) h = λ s. h (
      low-read (slice_get f.stack (n - 1)) (slice_get g.stack (n - 1)) (cells-at t (n - 1) stack) (each-at IsNotTop g.stack (n - 1) no_top) s.0,
      high-read (slice_get f.stack n) (slice_get g.stack n) (cells-at t n stack) (each-at IsNotTop g.stack n no_top) s.1,
    )
    holds-falls (Held x ty) h = held-falls ty (slice_get f.regs x) (slice_get g.regs x) (cells-at t x regs) h

    pub all-falls : (ds : List Demand) → SatisfiesAll t g ds → SatisfiesAll t f ds
    all-falls [] h = tt
    all-falls (d ∷ ds) h = (holds-falls d h.0, all-falls ds h.1)

-- ---- effects

-- what is given is lesser
unfoldable pub GivenBelow : ClassTable → Cells → Cells → Type 0
GivenBelow t given.Nothing given.Nothing = ⊤
GivenBelow t (given.One a) (given.One b) = Below t a b
GivenBelow t given.Int given.Int = ⊤
GivenBelow t _ _ = ⊥

-- the lesser effect makes the same change with lesser cells
unfoldable pub ChangeBelow : ClassTable → Change → Change → Type 0
ChangeBelow t (Replace m cells) (Replace n others) = (m ≡ n) × GivenBelow t cells others
ChangeBelow t c d = c ≡ d

pub record EffectBelow (t : ClassTable) (d e : Effect) : Type 0 where
  pub change : ChangeBelow t d.change e.change
  pub register : d.store.register ≡ e.store.register
  pub cells : GivenBelow t d.store.cells e.store.cells

-- a store into lesser registers, whose result is lesser
pub record StoresBelow (t : ClassTable) (mode : Mode) (s : RegisterStore) (before after : List Ty) : Type 0 where
  pub below : List Ty
  pub stores : StoresInRegisters t mode s before below
  pub lower : CellsBelow t below after

module _ (t : ClassTable) (are : IsOrderOfTypes t) where
  given-same : (cells : Cells) → GivenBelow t cells cells
  unfolding GivenBelow
  given-same given.Nothing = tt
  given-same (given.One a) = same
  given-same given.Int = tt

  pub change-same : (c : Change) → ChangeBelow t c c
  unfolding ChangeBelow
  change-same (Replace m cells) = (refl, given-same cells)
  change-same (CopyUnder m n) = refl
  change-same (Exchange m n) = refl
  change-same (MakeReady m p c cells) = refl

  pub effect-same : (e : Effect) → EffectBelow t e e
  effect-same e = record { change = change-same e.change; register = refl; cells = given-same e.store.cells }

  listed-falls : (c d : Cells) → GivenBelow t c d → CellsBelow t (in_stack_order c) (in_stack_order d)
  unfolding GivenBelow
  listed-falls given.Nothing given.Nothing h = no_cells
  listed-falls (given.One a) (given.One b) h = more_cells h no_cells
  listed-falls given.Int given.Int h = more_cells same (more_cells same no_cells)
  listed-falls given.Nothing (given.One b) h = absurd h
  listed-falls given.Nothing given.Int h = absurd h
  listed-falls (given.One a) given.Nothing h = absurd h
  listed-falls (given.One a) given.Int h = absurd h
  listed-falls given.Int given.Nothing h = absurd h
  listed-falls given.Int (given.One b) h = absurd h

  -- an uninitialised object and what is above it
  ready-fresh : (place class p c : ℕ) {b : Ty} → Below t (Fresh p c) b → FreshUp p c b → Below t (ready place class (Fresh p c)) (ready place class b)
  unfolding FreshUp
  ready-fresh place class p c {b = Top} x h = anything
  ready-fresh place class p c {b = Fresh q d} x h =
      let is : Fresh q d ≡ Fresh p c = cc in subst (λ b. Below t (ready place class (Fresh p c)) (ready place class b)) (sym is) same
  ready-fresh place class p c {b = Bottom} x h = absurd h
  ready-fresh place class p c {b = Short} x h = absurd h
  ready-fresh place class p c {b = IntHigh} x h = absurd h
  ready-fresh place class p c {b = IntLow} x h = absurd h
  ready-fresh place class p c {b = Null} x h = absurd h
  ready-fresh place class p c {b = Class d} x h = absurd h
  ready-fresh place class p c {b = ArrBool} x h = absurd h
  ready-fresh place class p c {b = ArrByte} x h = absurd h
  ready-fresh place class p c {b = ArrShort} x h = absurd h
  ready-fresh place class p c {b = ArrInt} x h = absurd h
  ready-fresh place class p c {b = ArrRef d} x h = absurd h

  -- what is no uninitialised object stays as it is; what is above it may be one only over Bottom
  ready-plain : (place class : ℕ) (a b : Ty) → IsNotFresh a → Below t a b → Below t a (ready place class b)
  unfolding FreshDown
  ready-plain place class a (Fresh q d) h x =
      subst (λ c. Below t c (ready place class (Fresh q d))) (sym (plain_under q d a h (fresh-down t q d x (refl, refl)))) nothing
  ready-plain place class a Bottom h x = x
  ready-plain place class a Short h x = x
  ready-plain place class a IntHigh h x = x
  ready-plain place class a IntLow h x = x
  ready-plain place class a Null h x = x
  ready-plain place class a (Class d) h x = x
  ready-plain place class a ArrBool h x = x
  ready-plain place class a ArrByte h x = x
  ready-plain place class a ArrShort h x = x
  ready-plain place class a ArrInt h x = x
  ready-plain place class a (ArrRef d) h x = x
  ready-plain place class a Top h x = x

  ready-falls : (place class : ℕ) (a b : Ty) → Below t a b → Below t (ready place class a) (ready place class b)
  unfolding FreshUp
  ready-falls place class z b x = grind (arith, ready-fresh, fresh-up, ready-plain)

  ready-cells : (place class : ℕ) {xs ys : List Ty} → CellsBelow t xs ys → CellsBelow t (map (ready place class) xs) (map (ready place class) ys)
  ready-cells place class no_cells = no_cells
  ready-cells place class (more_cells {a = a} {b = b} p ps) = more_cells (ready-falls place class a b p) (ready-cells place class ps)

  changed-same : (c : Change) {xs ys : List Ty} → CellsBelow t xs ys → CellsBelow t (changed c xs) (changed c ys)
  changed-same (Replace m cells) ps = cells-append t (cells-same t (in_stack_order cells)) (cells-drop t m ps)
  changed-same (CopyUnder m n) ps = cells-append t (cells-take t n ps) (cells-append t (cells-take t m ps) (cells-drop t n ps))
  changed-same (Exchange m n) ps = cells-append t (cells-take t n (cells-drop t m ps)) (cells-append t (cells-take t m ps) (cells-drop t (m + n) ps))
  changed-same (MakeReady m p c cells) ps = cells-append t (cells-same t (in_stack_order cells)) (ready-cells p c (cells-drop t m ps))

  pub changed-falls : (c d : Change) {xs ys : List Ty} → ChangeBelow t c d → CellsBelow t xs ys → CellsBelow t (changed c xs) (changed d ys)
  unfolding ChangeBelow
  changed-falls (Replace m cells) (Replace n others) {xs = xs} {ys = ys} h ps = grind (arith, cells-append, listed-falls, cells-drop)
  changed-falls (Replace m cells) (CopyUnder k n) h ps = absurd (cc)
  changed-falls (Replace m cells) (Exchange k n) h ps = absurd (cc)
  changed-falls (Replace m cells) (MakeReady k p c others) h ps = absurd (cc)
  changed-falls (CopyUnder m n) d {xs = xs} {ys = ys} h ps = grind (arith, changed-same (CopyUnder m n) ps)
  changed-falls (Exchange m n) d {xs = xs} {ys = ys} h ps = grind (arith, changed-same (Exchange m n) ps)
  changed-falls (MakeReady m p c cells) d {xs = xs} {ys = ys} h ps = grind (arith, changed-same (MakeReady m p c cells) ps)

  -- what is stored is below what the register holds then
  stored-below : (mode : Mode) (held ty now : Ty) → IsStoredOver t mode held ty now → Below t ty now
  stored-below Flow held ty now e = subst (Below t ty) (sym e) same
  stored-below Card held ty now is = is.right

  write-flow : (mode : Mode) {xs ys zs : List Ty} (x y : ℕ) (a b : Ty) → x ≡ y → Below t a b → CellsBelow t xs ys
      → WritesRegister t mode y b ys zs → CellsBelow t (set xs x a) zs
  write-flow mode {xs = xs} {ys = ys} x y a b e le ps u =
      grind (arith, set xs x a, cells-set t x (joined le (stored-below mode (reg ys y) b u.value u.stored)) ps)

  pub store-flow : (mode : Mode) (xs ys zs : List Ty) (x y : ℕ) (c d : Cells) → x ≡ y → GivenBelow t c d → CellsBelow t xs ys
      → WritesCells t mode y d ys zs → StoresBelow t Flow (record { register = x; cells = c }) xs zs
  unfolding GivenBelow
  store-flow mode xs ys zs x y given.Nothing given.Nothing e g ps u = record { below = xs; stores = refl; lower = subst (CellsBelow t xs) (sym u) ps }
  store-flow mode xs ys zs x y (given.One a) (given.One b) e g ps u = record {
    below = set xs x a;
    stores = record { value = a; stored = refl; after_is = refl };
    lower = write-flow mode x y a b e g ps u;
  }
  store-flow mode xs ys zs x y given.Int given.Int e g ps u = record {
    below = set (set xs x IntHigh) (x + 1) IntLow;
    stores = grind (arith, set);
    lower = write-flow mode (x + 1) (y + 1) IntLow IntLow (ap (λ n. n + 1) e) same (write-flow mode x y IntHigh IntHigh e same ps u.high) u.low;
  }
  store-flow mode xs ys zs x y given.Nothing (given.One b) e g ps u = absurd g
  store-flow mode xs ys zs x y given.Nothing given.Int e g ps u = absurd g
  store-flow mode xs ys zs x y (given.One a) given.Nothing e g ps u = absurd g
  store-flow mode xs ys zs x y (given.One a) given.Int e g ps u = absurd g
  store-flow mode xs ys zs x y given.Int given.Nothing e g ps u = absurd g
  store-flow mode xs ys zs x y given.Int (given.One b) e g ps u = absurd g

  -- ---- the cells that are found

  null-below : (b : Ty) → ReferenceDown b → Below t Null (or_null b)
  unfolding ReferenceDown
  null-below Bottom h = same
  null-below Null h = same
  null-below (Class c) h = null_object
  null-below ArrBool h = null_array of_booleans
  null-below ArrByte h = null_array of_bytes
  null-below ArrShort h = null_array of_shorts
  null-below ArrInt h = null_array of_ints
  null-below (ArrRef c) h = null_array of_references
  null-below _ h = absurd h

  or_null-above : (b : Ty) → Below t b (or_null b)
  or_null-above Bottom = nothing
  or_null-above Short = same
  or_null-above IntHigh = same
  or_null-above IntLow = same
  or_null-above Null = same
  or_null-above (Class c) = same
  or_null-above ArrBool = same
  or_null-above ArrByte = same
  or_null-above ArrShort = same
  or_null-above ArrInt = same
  or_null-above (ArrRef c) = same
  or_null-above (Fresh p c) = same
  or_null-above Top = same

  pub or_null-falls : (a b : Ty) → Below t a b → ReferenceDown b → Below t (or_null a) (or_null b)
  or_null-falls Bottom b p h = null-below b h
  or_null-falls Short b p h = joined p (or_null-above b)
  or_null-falls IntHigh b p h = joined p (or_null-above b)
  or_null-falls IntLow b p h = joined p (or_null-above b)
  or_null-falls Null b p h = joined p (or_null-above b)
  or_null-falls (Class c) b p h = joined p (or_null-above b)
  or_null-falls ArrBool b p h = joined p (or_null-above b)
  or_null-falls ArrByte b p h = joined p (or_null-above b)
  or_null-falls ArrShort b p h = joined p (or_null-above b)
  or_null-falls ArrInt b p h = joined p (or_null-above b)
  or_null-falls (ArrRef c) b p h = joined p (or_null-above b)
  or_null-falls (Fresh q c) b p h = joined p (or_null-above b)
  or_null-falls Top b p h = joined p (or_null-above b)

  classes-below : (c d : ℕ) → Below t (ArrRef c) (ArrRef d) → Below t (Class c) (Class d)
  unfolding is_below
  classes-below c d p = below-told t are (Class c) (Class d) (below-computed t are p)

  array-not : (c : ℕ) (b : Ty) → IsNullDown b → Below t (ArrRef c) b → ⊥
  unfolding is_below IsNullDown
  array-not c y h p = grind (arith, below-computed)

  -- what is below an array of references has null's elements or those of a lesser class
  element-of_array : (a : Ty) (d : ℕ) → ReferencesDown a → Below t a (ArrRef d) → Below t (element a) (Class d)
  unfolding ReferencesDown
  element-of_array (ArrRef c) d h p = classes-below c d p
  element-of_array Bottom d h p = null_object
  element-of_array Null d h p = null_object
  element-of_array _ d h p = absurd h

  element-of_null : (a b : Ty) → ReferencesDown a → IsNullDown b → Below t a b → Below t (element a) Null
  unfolding ReferencesDown
  element-of_null (ArrRef c) b h n p = absurd (array-not c b n p)
  element-of_null Bottom b h n p = same
  element-of_null Null b h n p = same
  element-of_null _ b h n p = absurd h

  pub element-falls : (a b : Ty) → Below t a b → ReferencesDown b → Below t (element a) (element b)
  unfolding ReferencesDown IsNullDown
  element-falls a y p h = grind (arith, element-of_array, references-down, element-of_null)

  fresh_same : (taken : ℕ) (cells : Cells) (c : ℕ) (a b : Ty) → Below t a b → IsNotBottom a → IsFreshOf c b
      → ready_with taken cells a (Receiver c) ≡ ready_with taken cells b (Receiver c)
  fresh_same taken cells c a v x n h = grind (arith, fresh_below)

  -- a receiver that is found: both are the same uninitialised object, or neither is one
  pub ready_with-falls : (taken : ℕ) (cells : Cells) (want : Want) (a b : Ty) → Below t a b → IsNotBottom a → Meets t want b
      → ready_with taken cells a want ≡ ready_with taken cells b want
  unfolding NotReceiver
  ready_with-falls taken cells (Receiver c) a b p n (inl h) = fresh_same taken cells c a b p n h
  ready_with-falls taken cells (Receiver c) a b p n (inr h) = plain_both taken cells c a b (plain_class t a (joined p h)) (plain_class t b h)
  ready_with-falls taken cells (Value ty) a b p n h = not_receiver taken cells (Value ty) a b tt
  ready_with-falls taken cells Storable a b p n h = not_receiver taken cells Storable a b tt
  ready_with-falls taken cells ByteArray a b p n h = not_receiver taken cells ByteArray a b tt
  ready_with-falls taken cells AnyArray a b p n h = not_receiver taken cells AnyArray a b tt
  ready_with-falls taken cells Whole a b p n h = not_receiver taken cells Whole a b tt
