-- Loads, stores and copies of homes, over the registers of a card typing.
use Rattle.std.proofs.Common.{◌≡◌, ◌⊎◌, ℕ, zero, suc, ◌+◌, ◌<◌, ◌≤◌, true, false, inl, inr, List, []}
use Rattle.std.proofs.Common.{◌∷◌, ◌++◌, length, set, slice_get, Option, Some, Ok, IsSomeAnd, refl, sym, ◌∙◌, ap, subst, arith}
use Rattle.std.specs.Prelude.{⊤}
use Rattle.std.proofs.lemmas.Bool.{both_ways}
use Rattle.std.proofs.Math.Nat.{mod-eq_of_lt}
use Rattle.jc_base.specs.declared.ty.Ty.{Ty}
use Rattle.jc_base.specs.declared.ty.Ty.TheVariants.{Bottom, Short, IntHigh, IntLow, Null, Class, ArrBool}
use Rattle.jc_base.specs.declared.ty.Ty.TheVariants.{ArrByte, ArrShort, ArrInt, ArrRef, Fresh, Top}
use Rattle.jc_base.specs.declared.record.MethodRec.{MethodRec}
use Rattle.jc_base.specs.Class.{ClassTable, object}
use Rattle.jc_base.specs.Laws.{ClassesAreObjects}
use Rattle.jc_base.specs.Order.{Below, same, joined, null_object, array_object, of_booleans}
use Rattle.jc_base.specs.Order.{of_bytes, of_shorts, of_ints, of_references, IsKnown}
use Rattle.jc_base.specs.World.{Linked}
use Rattle.jc_decode.specs.declared.insn.Insn.{Insn}
use Rattle.jc_decode.specs.Layout.{layout_of, opcode}
use Rattle.jc_decode.specs.Listing.{falls, jumps}
use Rattle.jc_ops.specs.declared.operation.Operation.{Operation}
use Rattle.jc_ops.specs.declared.operation.Operation.TheVariants as ops
use Rattle.jc_ops.specs.declared.operation.Sort.TheVariants as sorts
use Rattle.jc_ops.specs.Next.{falls_from, ends_at}
use Rattle.jc_ops.specs.Resolve.{resolved}
use Rattle.jc_ops.specs.Row.{row_at, table, unused, by_sort, by_width, by_kind}
use Rattle.jc_ops.specs.Row.{first_four, by_register, literals, binaries, orders_all, branching}
use Rattle.jc_rules.specs.declared.effect.Mode.TheVariants.{Flow}
use Rattle.jc_rules.specs.declared.rule.Outcome.{Outcome}
use Rattle.jc_rules.specs.Demand.{Frame, SatisfiesAll}
use Rattle.jc_rules.specs.Effect.{StoresInRegisters, changed, reg, raises_register}
use Rattle.jc_rules.specs.Rule.{demands, effect, wrote, or_null}
use Rattle.jc_rules.specs.Apply.{OperationApplies}
use Rattle.jc_rules.specs.Flow.{CellsBelow, no_cells, more_cells}
use Rattle.xf_emission.specs.Move.{with_byte, load_op, store_op}
use Rattle.law_rewritten_typing.proofs.Walks.{holding, Asked, Turn}
use Rattle.jc_rules.proofs.CellLists.{cells-same}

-- ---- registers

pub set-below : (t : ClassTable) (xs : List Ty) (x : ℕ) (a b : Ty) → slice_get xs x ≡ Some b → Below t a b → CellsBelow t (set xs x a) xs
set-below t [] x a b e le = absurd (cc)
set-below t (y ∷ ys) zero a b e le = let same_type : y ≡ b = cc in more_cells (subst (Below t a) (sym same_type) le) (cells-same t ys)
set-below t (y ∷ ys) (suc x) a b e le = more_cells same (set-below t ys x a b e le)

pub set-same : (xs : List Ty) (x : ℕ) (a : Ty) → slice_get xs x ≡ Some a → set xs x a ≡ xs
set-same [] x a e = absurd (cc)
set-same (y ∷ ys) zero a e = let same_type : y ≡ a = cc in ap (λ (b : Ty). b ∷ ys) (sym same_type)
set-same (y ∷ ys) (suc x) a e = ap (λ (zs : List Ty). y ∷ zs) (set-same ys x a e)

pub get-inside : (xs : List Ty) (x : ℕ) (a : Ty) → slice_get xs x ≡ Some a → x < length xs
get-inside [] x a e = absurd (cc)
get-inside (y ∷ ys) zero a e = omega arith
get-inside (y ∷ ys) (suc x) a e = omega (arith, get-inside ys x a e)

pub get-reg : (xs : List Ty) (x : ℕ) (a : Ty) → slice_get xs x ≡ Some a → reg xs x ≡ a
get-reg [] x a e = absurd (cc)
get-reg (y ∷ ys) zero a e = cc
get-reg (y ∷ ys) (suc x) a e = get-reg ys x a e

-- ---- operations

-- what it does, where what it asks is met and there is room
pub applies-by :
    (w : Linked) (limit : ℕ) (op : Operation) (before after : Frame)
    → SatisfiesAll w.classes before (demands w op)
    → StoresInRegisters w.classes Flow (effect w op before).store before.regs after.regs
    → after.stack ≡ changed (effect w op before).change before.stack
    → length after.stack ≤ limit
    → (o : Outcome) × OperationApplies w limit op Flow before after o
applies-by w limit op before after asked stores stack room = (
  record {
    falls = falls_from op;
    ends = ends_at op;
    depth = length after.stack;
    wrote = wrote (effect w op before).store.register (effect w op before).store.cells;
    rose = raises_register w.classes Flow (effect w op before).store before.regs;
  },
  record { asked = asked; regs = stores; stack = stack; room = room; falls = refl; ends = refl; depth = refl; wrote_is = refl; rose_is = refl },
)

-- loads and stores do not jump
quiet : (op : ℕ) → (op ≡ 21) ⊎ (op ≡ 22) ⊎ (op ≡ 23) ⊎ (op ≡ 40) ⊎ (op ≡ 41) ⊎ (op ≡ 42) → jumps op ≡ false
unfolding layout_of opcode
quiet op y = grind (arith)

-- a value that is no int half and no uninitialised object
abbrev pub IsPlainValue : Ty → Type 0
IsPlainValue Bottom = ⊥
IsPlainValue IntLow = ⊥
IsPlainValue (Fresh p c) = ⊥
IsPlainValue Top = ⊥
IsPlainValue ty = ⊤

-- the cells of a value on the stack, the top first
abbrev pub cells_on : Ty → List Ty
cells_on IntHigh = IntLow ∷ IntHigh ∷ []
cells_on ty = ty ∷ []

module _ (w : Linked) (objects : ClassesAreObjects w.classes) (r : MethodRec) (regs : List Ty) (asks : ℕ → Asked) where
  -- the registers from one on hold a value of a type
  pub record Holds (ty : Ty) (x : ℕ) : Type 0 where
    pub value : IsPlainValue ty
    pub known : IsKnown w.classes ty
    pub first : slice_get regs x ≡ Some ty
    pub second : ty ≡ IntHigh → slice_get regs (x + 1) ≡ Some IntLow
    pub small : x < 256

  -- a reference is loaded and stored as one cell
  record IsReferenceCell (ty : Ty) : Type 0 where
    object : Below w.classes ty (Class (object w.classes))
    loads : load_op ty ≡ 21
    stores : store_op ty ≡ 40
    cells : cells_on ty ≡ ty ∷ []
    null : or_null ty ≡ ty

  sorted : (ty : Ty) → IsPlainValue ty → IsKnown w.classes ty → IsReferenceCell ty ⊎ (ty ≡ Short) ⊎ (ty ≡ IntHigh)
  sorted Short v k = inr (inl refl)
  sorted IntHigh v k = inr (inr refl)
  sorted Null v k = inl (record { object = null_object; loads = refl; stores = refl; cells = refl; null = refl })
  sorted (Class c) v k = inl (record { object = objects c k; loads = refl; stores = refl; cells = refl; null = refl })
  sorted ArrBool v k = inl (record { object = array_object of_booleans refl; loads = refl; stores = refl; cells = refl; null = refl })
  sorted ArrByte v k = inl (record { object = array_object of_bytes refl; loads = refl; stores = refl; cells = refl; null = refl })
  sorted ArrShort v k = inl (record { object = array_object of_shorts refl; loads = refl; stores = refl; cells = refl; null = refl })
  sorted ArrInt v k = inl (record { object = array_object of_ints refl; loads = refl; stores = refl; cells = refl; null = refl })
  sorted (ArrRef c) v k = inl (record { object = array_object of_references refl; loads = refl; stores = refl; cells = refl; null = refl })
  sorted Bottom v k = absurd v
  sorted IntLow v k = absurd v
  sorted (Fresh p c) v k = absurd v
  sorted Top v k = absurd v

  -- an instruction of an operation
  pub turn-by :
      (n : ℕ) (i : Insn) (op : Operation) (stack : List Ty) (after : Frame)
      → resolved w r n i (row_at i.op) ≡ Ok op
      → (o : Outcome) × OperationApplies w r.max_stack op Flow (record { regs = regs; stack = stack }) after o
      → CellsBelow w.classes after.regs regs
      → jumps i.op ≡ false
      → falls i.op ≡ true
      → length stack ≤ r.max_stack
      → Turn w r regs asks n i (holding stack) (holding after.stack)
  turn-by n i op stack after is does stored none goes room = grind (arith, both_ways, holding)

  -- ---- loads

  loads-reference : (n x : ℕ) → x < 256 → resolved w r n (with_byte 21 x) (row_at 21) ≡ Ok (ops.Load sorts.Reference x)
  unfolding row_at table by_sort by_width by_kind first_four by_register literals binaries orders_all branching unused
  loads-reference n x lt = ap (λ k. Ok (ops.Load sorts.Reference k)) (mod-eq_of_lt {n = x} {m = 256} lt)

  loads-short : (n x : ℕ) → x < 256 → resolved w r n (with_byte 22 x) (row_at 22) ≡ Ok (ops.Load sorts.Short x)
  unfolding row_at table by_sort by_width by_kind first_four by_register literals binaries orders_all branching unused
  loads-short n x lt = ap (λ k. Ok (ops.Load sorts.Short k)) (mod-eq_of_lt {n = x} {m = 256} lt)

  loads-int : (n x : ℕ) → x < 256 → resolved w r n (with_byte 23 x) (row_at 23) ≡ Ok (ops.Load sorts.Int x)
  unfolding row_at table by_sort by_width by_kind first_four by_register literals binaries orders_all branching unused
  loads-int n x lt = ap (λ k. Ok (ops.Load sorts.Int k)) (mod-eq_of_lt {n = x} {m = 256} lt)

  pub held : (x : ℕ) (a b : Ty) → slice_get regs x ≡ Some a → Below w.classes a b → IsSomeAnd (slice_get regs x) (λ found. Below w.classes found b)
  held x a b e le = subst (λ (o : Option Ty). IsSomeAnd o (λ found. Below w.classes found b)) (sym e) le

  pub there : (x : ℕ) (a : Ty) → slice_get regs x ≡ Some a → x + 1 ≤ length regs
  there x a e = omega (arith, get-inside regs x a e)

  pub two-there : (x : ℕ) → slice_get regs (x + 1) ≡ Some IntLow → x + 2 ≤ length regs
  two-there x e = omega (arith, get-inside regs (x + 1) IntLow e)

  pub load-turn : (n : ℕ) (ty : Ty) (x : ℕ) (stack : List Ty) → Holds ty x → length (cells_on ty ++ stack) ≤ r.max_stack
      → length stack ≤ r.max_stack
      → Turn w r regs asks n (with_byte (load_op ty) x) (holding stack) (holding (cells_on ty ++ stack))
  load-turn n ty x stack h room below = by (sorted ty h.value h.known)
    where
      aload : IsReferenceCell ty → Turn w r regs asks n (with_byte 21 x) (holding stack) (holding (ty ∷ stack))
      aload c =
          let found : reg regs x ≡ ty = get-reg regs x ty h.first in
          let given : or_null (reg regs x) ≡ ty = ap or_null found ∙ c.null in
          let own : length (ty ∷ stack) ≤ r.max_stack = subst (λ (ts : List Ty). length (ts ++ stack) ≤ r.max_stack) c.cells room in
          let full : length (or_null (reg regs x) ∷ stack) ≤ r.max_stack = omega (arith, own) in
          subst (λ (u : Ty). Turn w r regs asks n (with_byte 21 x) (holding stack) (holding (u ∷ stack))) given
          (turn-by n (with_byte 21 x) (ops.Load sorts.Reference x) stack (record { regs = regs; stack = or_null (reg regs x) ∷ stack })
          (loads-reference n x h.small)
          (applies-by w r.max_stack (ops.Load sorts.Reference x) (record { regs = regs; stack = stack })
          (record { regs = regs; stack = or_null (reg regs x) ∷ stack })
          (there x ty h.first, (held x ty (Class (object w.classes)) h.first c.object, tt)) refl refl full) (cells-same w.classes regs)
          (quiet 21 (inl refl)) refl below)

      sload : ty ≡ Short → Turn w r regs asks n (with_byte 22 x) (holding stack) (holding (Short ∷ stack))
      sload e =
          let own : length (Short ∷ stack) ≤ r.max_stack = subst (λ (u : Ty). length (cells_on u ++ stack) ≤ r.max_stack) e room in
          let first : slice_get regs x ≡ Some Short = h.first ∙ ap Some e in
          turn-by n (with_byte 22 x) (ops.Load sorts.Short x) stack (record { regs = regs; stack = Short ∷ stack }) (loads-short n x h.small)
          (applies-by w r.max_stack (ops.Load sorts.Short x) (record { regs = regs; stack = stack }) (record { regs = regs; stack = Short ∷ stack })
          (there x Short first, (held x Short Short first same, tt)) refl refl own) (cells-same w.classes regs) (quiet 22 (inr (inl refl))) refl below

      iload : ty ≡ IntHigh → Turn w r regs asks n (with_byte 23 x) (holding stack) (holding (IntLow ∷ IntHigh ∷ stack))
      iload e =
          let own : length (IntLow ∷ IntHigh ∷ stack) ≤ r.max_stack = subst (λ (u : Ty). length (cells_on u ++ stack) ≤ r.max_stack) e room in
          let first : slice_get regs x ≡ Some IntHigh = h.first ∙ ap Some e in
          let second = h.second e in
          turn-by n (with_byte 23 x) (ops.Load sorts.Int x) stack (record { regs = regs; stack = IntLow ∷ IntHigh ∷ stack }) (loads-int n x h.small)
          (applies-by w r.max_stack (ops.Load sorts.Int x) (record { regs = regs; stack = stack })
          (record { regs = regs; stack = IntLow ∷ IntHigh ∷ stack })
          (two-there x second, (held x IntHigh IntHigh first same, (held (x + 1) IntLow IntLow second same, tt))) refl refl own) (cells-same w.classes regs)
          (quiet 23 (inr (inr (inl refl)))) refl below

      by : IsReferenceCell ty ⊎ (ty ≡ Short) ⊎ (ty ≡ IntHigh) → Turn w r regs asks n (with_byte (load_op ty) x) (holding stack)
          (holding (cells_on ty ++ stack))
      by (inl c) =
          subst (λ (op : ℕ). Turn w r regs asks n (with_byte op x) (holding stack) (holding (cells_on ty ++ stack))) (sym c.loads)
          (subst (λ (ts : List Ty). Turn w r regs asks n (with_byte 21 x) (holding stack) (holding (ts ++ stack))) (sym c.cells) (aload c))
      by (inr (inl e)) = subst (λ (u : Ty). Turn w r regs asks n (with_byte (load_op u) x) (holding stack) (holding (cells_on u ++ stack))) (sym e) (sload e)
      by (inr (inr e)) = subst (λ (u : Ty). Turn w r regs asks n (with_byte (load_op u) x) (holding stack) (holding (cells_on u ++ stack))) (sym e) (iload e)

  -- ---- stores

  stores-reference : (n x : ℕ) → x < 256 → resolved w r n (with_byte 40 x) (row_at 40) ≡ Ok (ops.Store sorts.Reference x)
  unfolding row_at table by_sort by_width by_kind first_four by_register literals binaries orders_all branching unused
  stores-reference n x lt = ap (λ k. Ok (ops.Store sorts.Reference k)) (mod-eq_of_lt {n = x} {m = 256} lt)

  stores-short : (n x : ℕ) → x < 256 → resolved w r n (with_byte 41 x) (row_at 41) ≡ Ok (ops.Store sorts.Short x)
  unfolding row_at table by_sort by_width by_kind first_four by_register literals binaries orders_all branching unused
  stores-short n x lt = ap (λ k. Ok (ops.Store sorts.Short k)) (mod-eq_of_lt {n = x} {m = 256} lt)

  stores-int : (n x : ℕ) → x < 256 → resolved w r n (with_byte 42 x) (row_at 42) ≡ Ok (ops.Store sorts.Int x)
  unfolding row_at table by_sort by_width by_kind first_four by_register literals binaries orders_all branching unused
  stores-int n x lt = ap (λ k. Ok (ops.Store sorts.Int k)) (mod-eq_of_lt {n = x} {m = 256} lt)

  pub store-turn : (n : ℕ) (ty : Ty) (x : ℕ) (vs stack : List Ty) → Holds ty x → CellsBelow w.classes vs (cells_on ty)
      → length (vs ++ stack) ≤ r.max_stack → length stack ≤ r.max_stack
      → Turn w r regs asks n (with_byte (store_op ty) x) (holding (vs ++ stack)) (holding stack)
  store-turn n ty x vs stack h le room below = by (sorted ty h.value h.known)
    where
      astore : IsReferenceCell ty → (us : List Ty) → CellsBelow w.classes us (ty ∷ []) → length (us ++ stack) ≤ r.max_stack
          → Turn w r regs asks n (with_byte 40 x) (holding (us ++ stack)) (holding stack)
      astore c _ (more_cells {a = v} p no_cells) full =
          turn-by n (with_byte 40 x) (ops.Store sorts.Reference x) (v ∷ stack) (record { regs = set regs x v; stack = stack }) (stores-reference n x h.small)
          (applies-by w r.max_stack (ops.Store sorts.Reference x) (record { regs = regs; stack = v ∷ stack }) (record { regs = set regs x v; stack = stack })
          (there x ty h.first, (joined p c.object, tt)) (record { value = v; stored = refl; after_is = refl }) refl below)
          (set-below w.classes regs x v ty h.first p) (quiet 40 (inr (inr (inr (inl refl))))) refl full

      sstore : ty ≡ Short → (us : List Ty) → CellsBelow w.classes us (Short ∷ []) → length (us ++ stack) ≤ r.max_stack
          → Turn w r regs asks n (with_byte 41 x) (holding (us ++ stack)) (holding stack)
      sstore e _ (more_cells {a = v} p no_cells) full =
          let first : slice_get regs x ≡ Some Short = h.first ∙ ap Some e in
          turn-by n (with_byte 41 x) (ops.Store sorts.Short x) (v ∷ stack) (record { regs = set regs x Short; stack = stack }) (stores-short n x h.small)
          (applies-by w r.max_stack (ops.Store sorts.Short x) (record { regs = regs; stack = v ∷ stack }) (record { regs = set regs x Short; stack = stack })
          (there x Short first, (p, tt)) (record { value = Short; stored = refl; after_is = refl }) refl below)
          (set-below w.classes regs x Short Short first same) (quiet 41 (inr (inr (inr (inr (inl refl)))))) refl full

      istore : ty ≡ IntHigh → (us : List Ty) → CellsBelow w.classes us (IntLow ∷ IntHigh ∷ []) → length (us ++ stack) ≤ r.max_stack
          → Turn w r regs asks n (with_byte 42 x) (holding (us ++ stack)) (holding stack)
      istore e _ (more_cells {a = v} p (more_cells {a = u} q no_cells)) full =
          let first : slice_get regs x ≡ Some IntHigh = h.first ∙ ap Some e in
          let second = h.second e in
          let high : set regs x IntHigh ≡ regs = set-same regs x IntHigh first in
          let after : List Ty = set (set regs x IntHigh) (x + 1) IntLow in
          let stays : CellsBelow w.classes after regs = subst (λ (ts : List Ty). CellsBelow w.classes (set ts (x + 1) IntLow) regs) (sym high)
          (set-below w.classes regs (x + 1) IntLow IntLow second same) in
          turn-by n (with_byte 42 x) (ops.Store sorts.Int x) (v ∷ u ∷ stack) (record { regs = after; stack = stack }) (stores-int n x h.small)
          (applies-by w r.max_stack (ops.Store sorts.Int x) (record { regs = regs; stack = v ∷ u ∷ stack }) (record { regs = after; stack = stack })
          (two-there x second, (p, (q, tt)))
          (record {
            between = set regs x IntHigh;
            high = record { value = IntHigh; stored = refl; after_is = refl };
            low = record { value = IntLow; stored = refl; after_is = refl };
          }) refl below) stays (quiet 42 (inr (inr (inr (inr (inr refl)))))) refl full

      by : IsReferenceCell ty ⊎ (ty ≡ Short) ⊎ (ty ≡ IntHigh) → Turn w r regs asks n (with_byte (store_op ty) x) (holding (vs ++ stack))
          (holding stack)
      by (inl c) =
          subst (λ (op : ℕ). Turn w r regs asks n (with_byte op x) (holding (vs ++ stack)) (holding stack)) (sym c.stores)
          (astore c vs (subst (CellsBelow w.classes vs) c.cells le) room)
      by (inr (inl e)) =
          subst (λ (u : Ty). Turn w r regs asks n (with_byte (store_op u) x) (holding (vs ++ stack)) (holding stack)) (sym e)
          (sstore e vs (subst (λ (u : Ty). CellsBelow w.classes vs (cells_on u)) e le) room)
      by (inr (inr e)) =
          subst (λ (u : Ty). Turn w r regs asks n (with_byte (store_op u) x) (holding (vs ++ stack)) (holding stack)) (sym e)
          (istore e vs (subst (λ (u : Ty). CellsBelow w.classes vs (cells_on u)) e le) room)
