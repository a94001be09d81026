-- What an instruction asks suffices for what it does: the cells and registers are there, and what it gives is known.
use Rattle.std.proofs.Common.{◌≡◌, ℕ, ◌+◌, ◌-◌, ◌<◌, ◌≤◌, List, [], ◌∷◌, ◌++◌, length, take, drop, map, reverse, rules}
use Rattle.std.proofs.Common.{get_or, Option, Some, None, IsSomeAnd, IfSome, slice_get, All}
use Rattle.std.proofs.Common.{refl, arith, cond, Bool, true, false}
use Rattle.std.proofs.Common.{if◌then◌else◌, length-append, length-take, length-drop}
use Rattle.std.specs.Bool.{⊤}
use Rattle.std.proofs.lemmas.List.{length-map, length-reverse}
use Rattle.std.proofs.lemmas.List.Elements.{All-append, All-take, All-drop, All-map, All-get_or}
use Rattle.std.proofs.lemmas.Option.{slice_get_within}
use Rattle.jc_base.specs.declared.ty.Ty.{Ty}
use Rattle.jc_base.specs.declared.ty.Ty.TheVariants.{Short, IntHigh, Null, Class, Fresh, Top}
use Rattle.jc_base.specs.declared.ty.Kind.{Kind}
use Rattle.jc_base.specs.declared.ty.Kind.TheVariants as kinds
use Rattle.jc_base.specs.declared.record.MethodRec.{MethodRec}
use Rattle.jc_base.specs.Class.{ClassTable, IsClass, is_interface, object, class_in_types}
use Rattle.jc_base.specs.Order.{Below, IsKnown}
use Rattle.jc_base.specs.Cell.{IsDeclared}
use Rattle.jc_base.specs.Linked.{IsMethod}
use Rattle.jc_base.specs.World.{Linked, IsWorld}
use Rattle.jc_base.proofs.Lists.{All-slice_get}
use Rattle.jc_ops.specs.declared.operation.Sort.{Sort}
use Rattle.jc_ops.specs.declared.operation.Sort.TheVariants as sorts
use Rattle.jc_ops.specs.declared.operation.Width.{Width}
use Rattle.jc_ops.specs.declared.operation.Width.TheVariants as widths
use Rattle.jc_ops.specs.declared.operation.Constant.{Constant}
use Rattle.jc_ops.specs.declared.operation.Constant.TheVariants as constants
use Rattle.jc_ops.specs.declared.operation.Move.{Move}
use Rattle.jc_ops.specs.declared.operation.Move.TheVariants as moves
use Rattle.jc_ops.specs.declared.operation.Arithmetic.{Arithmetic}
use Rattle.jc_ops.specs.declared.operation.Arithmetic.TheVariants as arithmetic
use Rattle.jc_ops.specs.declared.operation.Branch.{Branch}
use Rattle.jc_ops.specs.declared.operation.Branch.TheVariants as branches
use Rattle.jc_ops.specs.declared.operation.Holder.{Holder}
use Rattle.jc_ops.specs.declared.operation.Holder.TheVariants as holders
use Rattle.jc_ops.specs.declared.operation.TypeTest.{TypeTest}
use Rattle.jc_ops.specs.declared.operation.TypeTest.TheVariants as tests
use Rattle.jc_ops.specs.declared.operation.Operation.{Operation}
use Rattle.jc_ops.specs.declared.operation.Operation.TheVariants as ops
use Rattle.jc_ops.specs.declared.operation.Want.{Want}
use Rattle.jc_ops.specs.declared.operation.Want.TheVariants.{Value, Storable, AnyArray, Whole}
use Rattle.jc_ops.specs.Sound.{IsKnownWant, IsNamedType, IsSound}
use Rattle.jc_rules.specs.declared.demand.Demand.{Demand}
use Rattle.jc_rules.specs.declared.demand.Demand.TheVariants.{Cell}
use Rattle.jc_rules.specs.declared.effect.Cells.{Cells}
use Rattle.jc_rules.specs.declared.effect.Cells.TheVariants as given
use Rattle.jc_rules.specs.declared.effect.Change.{Change}
use Rattle.jc_rules.specs.declared.effect.Change.TheVariants.{Replace, CopyUnder, Exchange, MakeReady}
use Rattle.jc_rules.specs.declared.effect.Effect.{Effect}
use Rattle.jc_rules.specs.Effect.{in_stack_order, ready, changed, cells_needed, depth_after, reg}
use Rattle.jc_rules.specs.Demand.{Frame, Meets, SatisfiesAll, AreKnown}
use Rattle.jc_rules.specs.Rule.{cell, number, two_numbers, size, number_given, value_given}
use Rattle.jc_rules.specs.Rule.{value_wanted, value_size, on_stack, replacing, storing}
use Rattle.jc_rules.specs.Rule.{constant_effect, load_demands, load_effect, or_null}
use Rattle.jc_rules.specs.Rule.{store_demands, store_effect, increment_demands, increment_effect}
use Rattle.jc_rules.specs.Rule.{move_demands, move_effect, arithmetic_demands, arithmetic_effect}
use Rattle.jc_rules.specs.Rule.{element, array_read_demands, array_read_effect}
use Rattle.jc_rules.specs.Rule.{array_write_demands, array_write_effect, branch_demands}
use Rattle.jc_rules.specs.Rule.{branch_effect, field_read_demands, field_read_effect}
use Rattle.jc_rules.specs.Rule.{field_write_demands, field_write_effect, cells_wanted, call_demands}
use Rattle.jc_rules.specs.Rule.{call_effect, ready_with, result_given, result_at}
use Rattle.jc_rules.specs.Rule.{seen, type_test_effect, array_wanted, return_demands, return_effect, demands, effect}
use Rattle.jc_rules.specs.Known.{IsValue, IsKnownOperation}
use Rattle.jc_rules.specs.Flow.{IsNotFresh, IsNotTop}
use Rattle.jc_rules.specs.Laws.{IsNotBottom}
use Rattle.jc_rules.proofs.Falls.{plain_class, top_not_below_class}
use Rattle.jc_rules.proofs.RuleFalls.{some-or}
use Rattle.jc_rules.proofs.Demands.{SatisfiesAll-front, SatisfiesAll-rest, SatisfiesAll-append}

-- ---- the number of cells

module _ (taken : ℕ) (s : List Ty) where
  private_length : (xs : List Ty) → length (xs ++ drop taken s) ≡ length s - taken + length xs
  private_length xs = simp (length-append, length-drop) (omega arith)

pub length-changed : (c : Change) (s : List Ty) → cells_needed c ≤ length s → length (changed c s) ≡ depth_after c (length s)
length-changed x s h = grind (arith, private_length, length-append, length-take, length-drop, length-map)

-- ---- what is known of what is given

value-full : (ty : Ty) → IsValue ty → IsNotBottom ty
value-full x h = grind (arith)

value-topless : (ty : Ty) → IsValue ty → IsNotTop ty
value-topless x h = grind (arith)

-- what goes on the stack names classes alone, and is the type of a value
abbrev pub CellsKnown : ClassTable → Cells → Type 0
CellsKnown t given.Nothing = ⊤
CellsKnown t (given.One ty) = IsKnown t ty × IsValue ty
CellsKnown t given.Int = ⊤

-- what goes into a register names classes alone, and is no uninitialised object
abbrev pub CellsKept : ClassTable → Cells → Type 0
CellsKept t given.Nothing = ⊤
CellsKept t (given.One ty) = IsKnown t ty × IsNotFresh ty
CellsKept t given.Int = ⊤

-- what goes into a register is no Bottom
abbrev pub CellsFull : Cells → Type 0
CellsFull given.Nothing = ⊤
CellsFull (given.One ty) = IsNotBottom ty
CellsFull given.Int = ⊤

abbrev pub ChangeKnown : ClassTable → Change → Type 0
ChangeKnown t (Replace taken cells) = CellsKnown t cells
ChangeKnown t (CopyUnder copied under) = ⊤
ChangeKnown t (Exchange top under) = ⊤
ChangeKnown t (MakeReady taken place class cells) = IsClass t class × CellsKnown t cells

pub cells-known : (t : ClassTable) (cells : Cells) → CellsKnown t cells → All (IsKnown t) (in_stack_order cells)
cells-known t y h k d lt = grind (arith)

pub cells-kept : (t : ClassTable) (cells : Cells) → CellsKept t cells → All (IsKnown t) (in_stack_order cells)
cells-kept t y h k d lt = grind (arith)

ready-known : (t : ClassTable) (place class : ℕ) (ty : Ty) → IsClass t class → IsKnown t ty → IsKnown t (ready place class ty)
ready-known t place class u h k = grind (arith, cond)

pub changed-known : (t : ClassTable) (c : Change) (s : List Ty) → ChangeKnown t c → All (IsKnown t) s → All (IsKnown t) (changed c s)
changed-known t (Replace taken cells) s k all =
    All-append (IsKnown t) (in_stack_order cells) (drop taken s) (cells-known t cells k) (All-drop (IsKnown t) taken s all)
changed-known t (CopyUnder copied under) s k all =
    All-append (IsKnown t) (take under s) (take copied s ++ drop under s) (All-take (IsKnown t) under s all)
    (All-append (IsKnown t) (take copied s) (drop under s) (All-take (IsKnown t) copied s all) (All-drop (IsKnown t) under s all))
changed-known t (Exchange top under) s k all =
    All-append (IsKnown t) (take under (drop top s)) (take top s ++ drop (top + under) s)
    (All-take (IsKnown t) under (drop top s) (All-drop (IsKnown t) top s all))
    (All-append (IsKnown t) (take top s) (drop (top + under) s) (All-take (IsKnown t) top s all) (All-drop (IsKnown t) (top + under) s all))
changed-known t (MakeReady taken place class cells) s k all =
    All-append (IsKnown t) (in_stack_order cells) (map (ready place class) (drop taken s)) (cells-known t cells k.1)
    (All-map (IsKnown t) (ready place class) (drop taken s)
    (λ i d lt. ready-known t place class (get_or (drop taken s) i d) k.0 (All-drop (IsKnown t) taken s all i d lt)))

ready-full : (place class : ℕ) (ty : Ty) → IsNotBottom ty → IsNotBottom (ready place class ty)
ready-full place class z h = grind (arith, cond)

ready-topless : (place class : ℕ) (ty : Ty) → IsNotTop ty → IsNotTop (ready place class ty)
ready-topless place class z h = grind (arith, cond)

-- what holds of values, and stays when objects are made ready, holds of the stack that is given
module _ (t : ClassTable) (P : Ty → Type 0) (values : (ty : Ty) → IsValue ty → P ty)
    (readies : (place class : ℕ) (ty : Ty) → P ty → P (ready place class ty)) where
  cells-each : (cells : Cells) → CellsKnown t cells → All P (in_stack_order cells)
  cells-each x h k d lt = grind (arith)

  changed-each : (c : Change) (s : List Ty) → ChangeKnown t c → All P s → All P (changed c s)
  changed-each (Replace taken cells) s k all = All-append P (in_stack_order cells) (drop taken s) (cells-each cells k) (All-drop P taken s all)
  changed-each (CopyUnder copied under) s k all =
      All-append P (take under s) (take copied s ++ drop under s) (All-take P under s all)
      (All-append P (take copied s) (drop under s) (All-take P copied s all) (All-drop P under s all))
  changed-each (Exchange top under) s k all =
      All-append P (take under (drop top s)) (take top s ++ drop (top + under) s) (All-take P under (drop top s) (All-drop P top s all))
      (All-append P (take top s) (drop (top + under) s) (All-take P top s all) (All-drop P (top + under) s all))
  changed-each (MakeReady taken place class cells) s k all =
      All-append P (in_stack_order cells) (map (ready place class) (drop taken s)) (cells-each cells k.1)
      (All-map P (ready place class) (drop taken s)
      (λ i d lt. readies place class (get_or (drop taken s) i d) (All-drop P taken s all i d lt)))

pub changed-full : (t : ClassTable) (c : Change) (s : List Ty) → ChangeKnown t c → All IsNotBottom s → All IsNotBottom (changed c s)
changed-full t = changed-each t IsNotBottom value-full ready-full

pub changed-topless : (t : ClassTable) (c : Change) (s : List Ty) → ChangeKnown t c → All IsNotTop s → All IsNotTop (changed c s)
changed-topless t = changed-each t IsNotTop value-topless ready-topless

module _ (t : ClassTable) {d : ℕ} where
  topless_class : (a : Ty) → Below t a (Class d) → IsNotTop a
  topless_class x x2 = grind (arith, top_not_below_class)

-- ---- an effect that suits a frame

pub record Suits (t : ClassTable) (f : Frame) (e : Effect) : Type 0 where
  pub there : cells_needed e.change ≤ length f.stack
  pub inside : e.store.register + length (in_stack_order e.store.cells) ≤ length f.regs
  pub stored : CellsKept t e.store.cells
  pub change : ChangeKnown t e.change

module _ (t : ClassTable) (f : Frame) where
  pub cell-there : (xs : List Ty) (n : ℕ) (P : Ty → Type 0) → IsSomeAnd (slice_get xs n) P → n + 1 ≤ length xs
  cell-there xs n P h = grind (arith, slice_get, slice_get_within)

  pub suits-replacing : (taken : ℕ) (cells : Cells) → taken ≤ length f.stack → CellsKnown t cells → Suits t f (replacing taken cells)
  suits-replacing taken cells h k = record { there = h; inside = omega arith; stored = tt; change = k }

  pub suits-storing : (taken x : ℕ) (cells : Cells) → taken ≤ length f.stack → x + length (in_stack_order cells) ≤ length f.regs
      → CellsKept t cells → Suits t f (storing taken x cells)
  suits-storing taken x cells h g k = record { there = h; inside = g; stored = k; change = tt }

  pub suits-on_stack : (c : Change) → cells_needed c ≤ length f.stack → ChangeKnown t c → Suits t f (on_stack c)
  suits-on_stack c h k = record { there = h; inside = omega arith; stored = tt; change = k }

  number-there : (w : Width) (n : ℕ) → SatisfiesAll t f (number w n) → n + size w ≤ length f.stack
  number-there x n h = grind (arith, cell-there)

  two-there : (w : Width) → SatisfiesAll t f (two_numbers w) → size w + size w ≤ length f.stack
  two-there x h = grind (arith, cell-there)

  number-known : (w : Width) → CellsKnown t (number_given w)
  number-known x = grind (arith)

  value-known : (ty : Ty) → IsKnown t ty × IsValue ty → CellsKnown t (value_given ty)
  value-known x k = grind (arith)

  module _ (rest : List Demand) where
    value-there : (ty : Ty) → SatisfiesAll t f (value_wanted ty ++ rest) → value_size ty ≤ length f.stack
    value-there x h = grind (arith, cell-there)

  or_null-known : (ty : Ty) → IsKnown t ty → IsKnown t (or_null ty)
  or_null-known x k = grind (arith)

  or_null-full : (ty : Ty) → IsNotTop ty → IsValue (or_null ty)
  or_null-full x h = grind (arith)

  element-full : (ty : Ty) → IsValue (element ty)
  element-full x = grind (arith)

  element-known : (ty : Ty) → IsKnown t ty → IsKnown t (element ty)
  element-known x k = grind (arith)

  module _ (k : AreKnown t f) where
    reg-known : (x : ℕ) → x < length f.regs → IsKnown t (reg f.regs x)
    reg-known x lt = All-get_or (IsKnown t) f.regs x Top lt k.regs

    cell-known : (n : ℕ) → n < length f.stack → IsKnown t (cell f.stack n)
    cell-known n lt = All-get_or (IsKnown t) f.stack n Top lt k.stack

    -- ---- values

    suits-constant : (c : Constant) → Suits t f (constant_effect c)
    suits-constant x = grind (arith, suits-replacing)

    suits-load : (s : Sort) (x : ℕ) → SatisfiesAll t f (load_demands t s x) → Suits t f (load_effect s x f)
    suits-load x x2 h = grind (arith, suits-replacing, or_null-known, reg-known, or_null-full, topless_class, some-or)

    suits-store : (s : Sort) (x : ℕ) → SatisfiesAll t f (store_demands s x) → Suits t f (store_effect s x f)
    suits-store sorts.Reference x h =
        let there : 0 + 1 ≤ length f.stack = cell-there f.stack 0 (Meets t Storable) h.1.0 in suits-storing 1 x (given.One (cell f.stack 0)) (omega arith)
        h.0 (cell-known 0 (omega arith), plain_class t (cell f.stack 0) (some-or (λ ty. Below t ty (Class (object t))) f.stack 0 h.1.0))
    suits-store sorts.Short x h = suits-storing 1 x (given.One Short) (cell-there f.stack 0 (Meets t (Value Short)) h.1.0) h.0 (tt, tt)
    suits-store sorts.Int x h = suits-storing 2 x given.Int (cell-there f.stack 1 (Meets t (Value IntHigh)) h.1.1.0) h.0 tt

    suits-increment : (w : Width) (x : ℕ) → SatisfiesAll t f (increment_demands w x) → Suits t f (increment_effect w x)
    suits-increment x x2 h = grind (arith, suits-storing)

    suits-move : (m : Move) → SatisfiesAll t f (move_demands m) → Suits t f (move_effect m)
    suits-move moves.Pop h = suits-replacing 1 given.Nothing (cell-there f.stack 0 (Meets t Whole) h.0) tt
    suits-move moves.PopTwo h = suits-replacing 2 given.Nothing h.0 tt
    suits-move moves.Duplicate h =
        let there : 0 + 1 ≤ length f.stack = cell-there f.stack 0 (Meets t Whole) h.0 in suits-on_stack (CopyUnder 1 0) (omega arith) tt
    suits-move moves.DuplicateTwo h = suits-on_stack (CopyUnder 2 0) (omega (arith, h.0)) tt
    suits-move (moves.CopyUnder p n) h = suits-on_stack (CopyUnder p n) (omega (arith, h.0, h.1.1.0)) tt
    suits-move (moves.Exchange p n) h = suits-on_stack (Exchange p n) h.1.1.0 tt

    suits-arithmetic : (a : Arithmetic) → SatisfiesAll t f (arithmetic_demands a) → Suits t f (arithmetic_effect a)
    suits-arithmetic (arithmetic.Binary o widths.Short) h = suits-replacing 2 (given.One Short) (two-there widths.Short h) (tt, tt)
    suits-arithmetic (arithmetic.Binary o widths.Int) h = suits-replacing 4 given.Int (two-there widths.Int h) tt
    suits-arithmetic (arithmetic.Negate w) h =
        let there : 0 + size w ≤ length f.stack = number-there w 0 h in suits-replacing (size w) (number_given w) (omega arith) (number-known w)
    suits-arithmetic arithmetic.ShortToByte h = suits-replacing 1 (given.One Short) (number-there widths.Short 0 h) (tt, tt)
    suits-arithmetic arithmetic.ShortToInt h = suits-replacing 1 given.Int (number-there widths.Short 0 h) tt
    suits-arithmetic arithmetic.IntToByte h = suits-replacing 2 (given.One Short) (number-there widths.Int 0 h) (tt, tt)
    suits-arithmetic arithmetic.IntToShort h = suits-replacing 2 (given.One Short) (number-there widths.Int 0 h) (tt, tt)
    suits-arithmetic arithmetic.CompareInts h = suits-replacing 4 (given.One Short) (two-there widths.Int h) (tt, tt)

    -- ---- objects

    suits-array_read : (kind : Kind) → SatisfiesAll t f (array_read_demands t kind) → Suits t f (array_read_effect kind f)
    suits-array_read kinds.Ref h =
        let there : 1 + 1 ≤ length f.stack = cell-there f.stack 1 (Meets t (array_wanted t kinds.Ref)) h.1.0 in
        suits-replacing 2 (given.One (element (cell f.stack 1))) there
        (element-known (cell f.stack 1) (cell-known 1 (omega arith)), element-full (cell f.stack 1))
    suits-array_read kinds.Byte h = suits-replacing 2 (given.One Short) (cell-there f.stack 1 (Meets t (array_wanted t kinds.Byte)) h.1.0) (tt, tt)
    suits-array_read kinds.Short h = suits-replacing 2 (given.One Short) (cell-there f.stack 1 (Meets t (array_wanted t kinds.Short)) h.1.0) (tt, tt)
    suits-array_read kinds.Int h = suits-replacing 2 given.Int (cell-there f.stack 1 (Meets t (array_wanted t kinds.Int)) h.1.0) tt

    suits-array_write : (kind : Kind) → SatisfiesAll t f (array_write_demands t kind) → Suits t f (array_write_effect kind)
    suits-array_write x h = grind (arith, suits-replacing, cell-there)

    suits-branch : (b : Branch) → SatisfiesAll t f (branch_demands t b) → Suits t f (branch_effect b)
    suits-branch x h = grind (arith, suits-replacing, number-there, cell-there, two-there)

    suits-read : (h : Holder) (c : ℕ) (ty : Ty) → IsKnown t ty × IsValue ty → SatisfiesAll t f (field_read_demands h c)
        → Suits t f (field_read_effect h ty)
    suits-read x c ty known h = grind (arith, suits-replacing, cell-there, value-known)

    suits-write : (h : Holder) (c : ℕ) (ty : Ty) → SatisfiesAll t f (field_write_demands h c ty) → Suits t f (field_write_effect h ty)
    suits-write x c ty h = grind (arith, suits-replacing, cell-there, value-there)

    suits-test : (test : TypeTest) (ty : Ty) → IsKnown t ty × IsValue ty → 0 + 1 ≤ length f.stack → Suits t f (type_test_effect test ty)
    suits-test x ty known h = grind (arith, suits-replacing)

    suits-popped : (ty : Ty) → SatisfiesAll t f (value_wanted ty) → Suits t f (replacing (value_size ty) given.Nothing)
    suits-popped ty h = suits-replacing (value_size ty) given.Nothing (value-there [] ty (SatisfiesAll-append t f (value_wanted ty) [] h tt)) tt

    -- ---- calls

    cells-there : (n : ℕ) (tys : List Ty) → n ≤ length f.stack → SatisfiesAll t f (cells_wanted n tys) → n + length tys ≤ length f.stack
    cells-there n [] le h = omega arith
    cells-there n (ty ∷ tys) le h = grind (arith, cell-there, cells-there (n + 1) tys (cell-there f.stack n (Meets t (Value ty)) h.0) h.1)

    arguments-there : (args : List Ty) (ds : List Demand) → SatisfiesAll t f (cells_wanted 0 (reverse args) ++ ds) → length args ≤ length f.stack
    arguments-there args ds h =
        let there : 0 + length (reverse args) ≤ length f.stack = cells-there 0 (reverse args) (omega arith)
        (SatisfiesAll-front t f (cells_wanted 0 (reverse args)) ds h) in
        omega (arith, length-reverse args)

    result-known : (o : Option Ty) → IfSome o (λ ty. IsKnown t ty × IsValue ty) → CellsKnown t (result_given o)
    result-known x k = grind (arith, value-known)

    suits-ready : (taken : ℕ) (cells : Cells) (found : Ty) (want : Want) → taken ≤ length f.stack → CellsKnown t cells → IsKnownWant t want
        → Suits t f (on_stack (ready_with taken cells found want))
    suits-ready taken cells z want le known w = grind (arith, suits-on_stack)

    suits-call : (args : List Ty) (result : Option Ty) (receiver : Option Want) → IfSome result (λ ty. IsKnown t ty × IsValue ty)
        → IfSome receiver (IsKnownWant t) → SatisfiesAll t f (call_demands args receiver) → Suits t f (call_effect args result receiver f)
    suits-call args result None known w h = suits-on_stack (Replace (length args) (result_given result)) (arguments-there args [] h) (result-known result known)
    suits-call args result (Some want) known w h =
        suits-ready (length args + 1) (result_given result) (cell f.stack (length args)) want
        (cell-there f.stack (length args) (Meets t want) (SatisfiesAll-rest t f (cells_wanted 0 (reverse args)) (Cell (length args) want ∷ []) h).0)
        (result-known result known) w

-- ---- the rule

declared-full : (t : ClassTable) (ty : Ty) → IsDeclared t ty → IsKnown t ty × IsValue ty
declared-full t y h = grind (arith)

result-declared : (w : Linked) → IsWorld w → (o : Option MethodRec)
    → ((m : MethodRec) → o ≡ Some m → IfSome m.sig.result (λ ty. IsKnown w.classes ty × IsValue ty))
    → IfSome (result_at o) (λ ty. IsKnown w.classes ty × IsValue ty)
result-declared w is z h = grind (arith)

IfSome-full : (t : ClassTable) (o : Option Ty) → IfSome o (IsDeclared t) → IfSome o (λ ty. IsKnown t ty × IsValue ty)
IfSome-full t y h = grind (arith, declared-full)

method-result : (w : Linked) → IsWorld w → (n : ℕ) → IfSome (result_at (slice_get w.methods n)) (λ ty. IsKnown w.classes ty × IsValue ty)
method-result w is n =
    result-declared w is (slice_get w.methods n)
    (λ m e. IfSome-full w.classes m.sig.result (All-slice_get (IsMethod w.infos w.pools w.classes) w.methods n m is.methods e).result)

module _ (t : ClassTable) (objects : IsClass t (object t)) where
  standing-class : (c : ℕ) → c < length t.records → IsClass t (class_in_types t c)
  standing-class c lt = at (is_interface t c) refl
    where
      at : (b : Bool) → is_interface t c ≡ b → IsClass t (if b then object t else c)
      at true e = objects
      at false e = record { number = lt; class = e }

  seen-known : (ty : Ty) → IsNamedType t ty → IsKnown t (seen t ty) × IsValue (seen t ty)
  seen-known x h = grind (arith, standing-class)

pub sound-known : (w : Linked) (m : MethodRec) (place : ℕ) (op : Operation) → IsSound w m place op → IsKnownOperation w op
sound-known w m place u h = grind (arith, declared-full, length)

module _ (w : Linked) (is : IsWorld w) (f : Frame) (k : AreKnown w.classes f) where
  suits-nothing : Suits w.classes f (replacing 0 given.Nothing)
  suits-nothing = suits-replacing w.classes f 0 given.Nothing (omega arith) tt

  suits-return : (result : Option Ty) → SatisfiesAll w.classes f (return_demands result) → Suits w.classes f (return_effect result)
  suits-return x all = grind (arith, suits-popped, suits-nothing)

  -- where what an operation asks is met, what it does suits the frame
  pub suits : (op : Operation) → IsKnownOperation w op → SatisfiesAll w.classes f (demands w op) → Suits w.classes f (effect w op f)
  suits (ops.Constant c) known all = suits-constant w.classes f k c
  suits (ops.Load s x) known all = suits-load w.classes f k s x all
  suits (ops.Store s x) known all = suits-store w.classes f k s x all
  suits (ops.Increment width x amount) known all = suits-increment w.classes f k width x all
  suits (ops.Move m) known all = suits-move w.classes f k m all
  suits (ops.Arithmetic a) known all = suits-arithmetic w.classes f k a all
  suits (ops.ArrayRead kind) known all = suits-array_read w.classes f k kind all
  suits (ops.ArrayWrite kind) known all = suits-array_write w.classes f k kind all
  suits ops.ArrayLength known all = suits-replacing w.classes f 1 (given.One Short) (cell-there w.classes f f.stack 0 (Meets w.classes AnyArray) all.0) (tt, tt)
  suits (ops.Branch b) known all = suits-branch w.classes f k b all
  suits (ops.Switch width) known all =
      let there : 0 + size width ≤ length f.stack = number-there w.classes f width 0 all in
      suits-replacing w.classes f (size width) given.Nothing (omega arith) tt
  suits (ops.StaticRead field) known all = suits-replacing w.classes f 0 (value_given field.ty) (omega arith) (value-known w.classes f field.ty known)
  suits (ops.StaticWrite field) known all = suits-popped w.classes f k field.ty all
  suits (ops.FieldRead field h) known all = suits-read w.classes f k h field.class field.ty (known.1, known.2) all
  suits (ops.FieldWrite field h) known all = suits-write w.classes f k h field.class field.ty all
  suits (ops.Call c) known all = search (rules, suits-call, slice_get, method-result)
  suits (ops.New place c) known all = suits-replacing w.classes f 0 (given.One (Fresh place c)) (omega arith) (known, tt)
  suits (ops.NewArray ty) known all = grind (arith, suits-replacing, cell-there, seen-known)
  suits ops.Throw known all = grind (arith, suits-replacing, cell-there)
  suits (ops.TypeTest test ty) known all = grind (arith, suits-test, seen-known, cell-there)
  suits (ops.Return result) known all = suits-return result all

-- what an operation stores where no cell is Bottom
pub stored-full : (w : Linked) (f : Frame) (op : Operation) → SatisfiesAll w.classes f (demands w op) → All IsNotBottom f.stack
    → CellsFull (effect w op f).store.cells
stored-full w f (ops.Store sorts.Reference x) all full =
    let there : 0 + 1 ≤ length f.stack = cell-there w.classes f f.stack 0 (Meets w.classes Storable) all.1.0 in
    All-get_or IsNotBottom f.stack 0 Top (omega arith) full
stored-full w f (ops.Store sorts.Short x) all full = tt
stored-full w f (ops.Store sorts.Int x) all full = tt
stored-full w f (ops.Increment widths.Short x amount) all full = tt
stored-full w f (ops.Increment widths.Int x amount) all full = tt
stored-full w f (ops.Load sorts.Reference x) all full = tt
stored-full w f (ops.Load sorts.Short x) all full = tt
stored-full w f (ops.Load sorts.Int x) all full = tt
stored-full w f (ops.Constant constants.Nothing) all full = tt
stored-full w f (ops.Constant constants.Null) all full = tt
stored-full w f (ops.Constant (constants.Short n)) all full = tt
stored-full w f (ops.Constant (constants.Int n)) all full = tt
stored-full w f (ops.Move moves.Pop) all full = tt
stored-full w f (ops.Move moves.PopTwo) all full = tt
stored-full w f (ops.Move moves.Duplicate) all full = tt
stored-full w f (ops.Move moves.DuplicateTwo) all full = tt
stored-full w f (ops.Move (moves.CopyUnder p n)) all full = tt
stored-full w f (ops.Move (moves.Exchange p n)) all full = tt
stored-full w f (ops.Arithmetic (arithmetic.Binary o widths.Short)) all full = tt
stored-full w f (ops.Arithmetic (arithmetic.Binary o widths.Int)) all full = tt
stored-full w f (ops.Arithmetic (arithmetic.Negate width)) all full = tt
stored-full w f (ops.Arithmetic arithmetic.ShortToByte) all full = tt
stored-full w f (ops.Arithmetic arithmetic.ShortToInt) all full = tt
stored-full w f (ops.Arithmetic arithmetic.IntToByte) all full = tt
stored-full w f (ops.Arithmetic arithmetic.IntToShort) all full = tt
stored-full w f (ops.Arithmetic arithmetic.CompareInts) all full = tt
stored-full w f (ops.ArrayRead kinds.Ref) all full = tt
stored-full w f (ops.ArrayRead kinds.Byte) all full = tt
stored-full w f (ops.ArrayRead kinds.Short) all full = tt
stored-full w f (ops.ArrayRead kinds.Int) all full = tt
stored-full w f (ops.ArrayWrite kinds.Int) all full = tt
stored-full w f (ops.ArrayWrite kinds.Ref) all full = tt
stored-full w f (ops.ArrayWrite kinds.Byte) all full = tt
stored-full w f (ops.ArrayWrite kinds.Short) all full = tt
stored-full w f ops.ArrayLength all full = tt
stored-full w f (ops.Branch branches.Always) all full = tt
stored-full w f (ops.Branch (branches.Zero o)) all full = tt
stored-full w f (ops.Branch (branches.Null e)) all full = tt
stored-full w f (ops.Branch (branches.References e)) all full = tt
stored-full w f (ops.Branch (branches.Shorts o)) all full = tt
stored-full w f (ops.Switch width) all full = tt
stored-full w f (ops.StaticRead field) all full = tt
stored-full w f (ops.StaticWrite field) all full = tt
stored-full w f (ops.FieldRead field holders.Stack) all full = tt
stored-full w f (ops.FieldRead field holders.This) all full = tt
stored-full w f (ops.FieldWrite field holders.Stack) all full = tt
stored-full w f (ops.FieldWrite field holders.This) all full = tt
stored-full w f (ops.Call c) all full = tt
stored-full w f (ops.New place c) all full = tt
stored-full w f (ops.NewArray ty) all full = tt
stored-full w f ops.Throw all full = tt
stored-full w f (ops.TypeTest tests.Cast ty) all full = tt
stored-full w f (ops.TypeTest tests.InstanceOf ty) all full = tt
stored-full w f (ops.Return None) all full = tt
stored-full w f (ops.Return (Some ty)) all full = tt
