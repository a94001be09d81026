-- Cells of the types that loads and stores of a letter ask for.
use Rattle.std.proofs.Common.{◌≡◌, ℕ, zero, suc, ◌+◌, ◌<◌, ◌≤◌, List, [], ◌∷◌, ◌++◌, length, refl}
use Rattle.std.proofs.Common.{sym, ap, ◌∙◌, subst, arith}
use Rattle.std.specs.Prelude.{Option, Some, None, option_map, IsSomeAnd, slice_get, ⊤}
use Rattle.std.proofs.lemmas.List.{length-map}
use Rattle.std.proofs.lemmas.Option.{slice_get-map}
use Rattle.jc_base.specs.declared.ty.Ty.{Ty}
use Rattle.jc_base.specs.declared.ty.Ty.TheVariants.{Bottom, Short, IntHigh, IntLow, Null, Class, ArrBool}
use Rattle.jc_base.specs.declared.ty.Ty.TheVariants.{ArrByte, ArrShort, ArrInt, ArrRef, Fresh, Top}
use Rattle.jc_base.specs.Class.{ClassTable, object}
use Rattle.jc_base.specs.Laws.{ClassesAreObjects, IsOrderOfTypes}
use Rattle.jc_base.specs.Order.{Below, joined, null_object, array_object, of_booleans, of_bytes, of_shorts, of_ints, of_references, IsKnown}
use Rattle.jc_base.specs.World.{Linked}
use Rattle.jc_ops.specs.declared.operation.Operation.TheVariants.{Load}
use Rattle.jc_ops.specs.declared.operation.Sort.{Sort}
use Rattle.jc_ops.specs.declared.operation.Sort.TheVariants as sorts
use Rattle.jc_rules.specs.Demand.{SatisfiesAll}
use Rattle.jc_rules.specs.Flow.{CellsBelow, IsNotTop}
use Rattle.jc_rules.specs.Rule.{demands}
use Rattle.vm_store.specs.declared.cell.Cell.{Cell}
use Rattle.vm_store.specs.declared.cell.ObjectKind.{ObjectKind}
use Rattle.vm_store.specs.Typing.{least_type}
use Rattle.vm_store.specs.Cells.{tagged}
use Rattle.vm_store.specs.State.{nth}
use Rattle.vm_store.specs.Laws.{HasContent}
use Rattle.law_sound.specs.Frames.{least_types}
use Rattle.xf_homes.specs.Value.{value_in_cells}
use Rattle.law_rewritten_typing.specs.Planned.{IsKept}
use Rattle.law_rewritten_typing.proofs.Below.{under-at, top-only}
use Rattle.law_rewritten_typing.proofs.Ready.{IsValueAt, value-is}
use Rattle.law_homes.specs.Moves.{size, AreFilled, letter_of}

-- ---- cells by their types

-- the types of the cells of a value of a letter, the first cell first
abbrev pub asked_types : ClassTable → Sort → List Ty
asked_types t sorts.Reference = Class (object t) ∷ []
asked_types t sorts.Short = Short ∷ []
asked_types t sorts.Int = IntHigh ∷ IntLow ∷ []

pub asked-size : (t : ClassTable) (letter : Sort) → length (asked_types t letter) ≡ size letter
asked-size t y = grind (arith)

-- something was stored in the cell, and its least type is below this one
abbrev pub IsCellOf : ClassTable → List ObjectKind → Ty → Cell → Type 0
IsCellOf t ks ty c = HasContent c × Below t (least_type t Bottom ks c) ty

-- the cells from a number on are such
abbrev pub CellsAt : ClassTable → List ObjectKind → List Cell → ℕ → List Ty → Type 0
CellsAt t ks cells n [] = ⊤
CellsAt t ks cells n (ty ∷ types) = IsSomeAnd (slice_get cells n) (IsCellOf t ks ty) × CellsAt t ks cells (n + 1) types

pub at-nth : (cells : List Cell) (n : ℕ) (P : Cell → Type 0) → IsSomeAnd (slice_get cells n) P → (n < length cells) × P (nth tagged cells n)
at-nth [] n P h = absurd h
at-nth (c ∷ cs) zero P h = (omega arith, h)
at-nth (c ∷ cs) (suc n) P h = let r = at-nth cs n P h in (omega (arith, r.0), r.1)

module _ (t : ClassTable) (ks : List ObjectKind) where
  -- such cells elsewhere
  pub cells-moved :
      (xs ys : List Cell) (n m : ℕ) (types : List Ty)
      → ((k : ℕ) → k < length types → slice_get ys (m + k) ≡ slice_get xs (n + k))
      → CellsAt t ks xs n types → CellsAt t ks ys m types
  cells-moved xs ys n m [] equal h = tt
  cells-moved xs ys n m (ty ∷ types) equal h =
      let a : m ≡ m + 0 = omega arith in
      let b : n + 0 ≡ n = omega arith in
      let first : slice_get ys m ≡ slice_get xs n = ap (slice_get ys) a ∙ (equal 0 (omega arith) ∙ ap (slice_get xs) b) in (
        subst (λ o. IsSomeAnd o (IsCellOf t ks ty)) (sym first) h.0,
        cells-moved xs ys (n + 1) (m + 1) types
            (λ k lt.
            let c : m + 1 + k ≡ m + suc k = omega arith in
            let d : n + suc k ≡ n + 1 + k = omega arith in
            ap (slice_get ys) c ∙ (equal (suc k) (omega (arith, lt)) ∙ ap (slice_get xs) d))
            h.1,
      )

  some-left : (xs ys : List Cell) (n : ℕ) (P : Cell → Type 0) → IsSomeAnd (slice_get xs n) P → IsSomeAnd (slice_get (xs ++ ys) n) P
  some-left [] ys n P h = absurd h
  some-left (x ∷ xs) ys zero P h = h
  some-left (x ∷ xs) ys (suc n) P h = some-left xs ys n P h

  pub cells-left : (xs ys : List Cell) (n : ℕ) (types : List Ty) → CellsAt t ks xs n types → CellsAt t ks (xs ++ ys) n types
  cells-left xs ys n [] h = tt
  cells-left xs ys n (ty ∷ types) h = (some-left xs ys n (IsCellOf t ks ty) h.0, cells-left xs ys (n + 1) types h.1)

  pub cells-inside : (xs : List Cell) (n : ℕ) (ty : Ty) (types : List Ty) → CellsAt t ks xs n (ty ∷ types) → n + length (ty ∷ types) ≤ length xs
  cells-inside xs n ty [] h = let r = at-nth xs n (IsCellOf t ks ty) h.0 in omega (arith, r.0)
  cells-inside xs n ty (u ∷ types) h = omega (arith, cells-inside xs (n + 1) u types h.1)

  -- the registers of a value are there
  pub value-inside : (letter : Sort) (xs : List Cell) (n : ℕ) → CellsAt t ks xs n (asked_types t letter) → n + size letter ≤ length xs
  value-inside sorts.Reference xs n h = cells-inside xs n (Class (object t)) [] h
  value-inside sorts.Short xs n h = cells-inside xs n Short [] h
  value-inside sorts.Int xs n h = cells-inside xs n IntHigh (IntLow ∷ []) h

  -- ---- what a load asks

  pub least-at :
      (cells : List Cell) (n : ℕ) (ty : Ty) → IsSomeAnd (slice_get cells n) (IsCellOf t ks ty)
      → IsSomeAnd (slice_get (least_types t Bottom ks cells) n) (λ u. Below t u ty)
  least-at cells n ty h =
      subst (λ o. IsSomeAnd o (λ u. Below t u ty)) (sym (slice_get-map (least_type t Bottom ks) cells n)) (by (slice_get cells n) h)
    where
      by : (o : Option Cell) → IsSomeAnd o (IsCellOf t ks ty) → IsSomeAnd (option_map (least_type t Bottom ks) o) (λ u. Below t u ty)
      by None h = absurd h
      by (Some c) h = h.1

  pub least-count : (cells : List Cell) (n : ℕ) → n ≤ length cells → n ≤ length (least_types t Bottom ks cells)
  least-count cells n le = omega (arith, le, length-map cells (least_type t Bottom ks))

pub load-asked :
    (w : Linked) (ks : List ObjectKind) (letter : Sort) (r : ℕ) (registers : List Cell) (stack : List Ty)
    → CellsAt w.classes ks registers r (asked_types w.classes letter)
    → SatisfiesAll w.classes (record { regs = least_types w.classes Bottom ks registers; stack = stack }) (demands w (Load letter r))
load-asked w ks sorts.Reference r registers stack h = (
  least-count w.classes ks registers (r + 1) (value-inside w.classes ks sorts.Reference registers r h),
  (least-at w.classes ks registers r (Class (object w.classes)) h.0, tt),
)
load-asked w ks sorts.Short r registers stack h = (
  least-count w.classes ks registers (r + 1) (value-inside w.classes ks sorts.Short registers r h),
  (least-at w.classes ks registers r Short h.0, tt),
)
load-asked w ks sorts.Int r registers stack h = (
  least-count w.classes ks registers (r + 2) (value-inside w.classes ks sorts.Int registers r h),
  (least-at w.classes ks registers r IntHigh h.0, (least-at w.classes ks registers (r + 1) IntLow h.1.0, tt)),
)

pub load-filled :
    (t : ClassTable) (ks : List ObjectKind) (letter : Sort) (r : ℕ) (registers : List Cell)
    → CellsAt t ks registers r (asked_types t letter)
    → AreFilled letter r registers
load-filled t ks z r registers h = grind (arith, at-nth)

-- ---- from the types of a frame

module _ (t : ClassTable) (types : IsOrderOfTypes t) (objects : ClassesAreObjects t) (ks : List ObjectKind) where
  -- an empty cell has no type but Top
  pub cell-of : (c : Cell) (ty : Ty) → Below t (least_type t Top ks c) ty → IsNotTop ty → IsCellOf t ks ty c
  cell-of c ty le not = grind (arith, top-only)

  cell-at :
      (cells : List Cell) (regs : List Ty) → CellsBelow t (least_types t Top ks cells) regs → (n : ℕ) (ty : Ty)
      → slice_get regs n ≡ Some ty → IsNotTop ty → IsSomeAnd (slice_get cells n) (IsCellOf t ks ty)
  cell-at cells regs le n ty e not =
      let a = under-at t (least_types t Top ks cells) regs n ty le e in
      by (slice_get cells n) a.0 (sym (slice_get-map (least_type t Top ks) cells n) ∙ a.1) a.2
    where
      by : (o : Option Cell) (a : Ty) → option_map (least_type t Top ks) o ≡ Some a → Below t a ty → IsSomeAnd o (IsCellOf t ks ty)
      by None a e le = absurd (cc)
      by (Some c) a e le = let own : least_type t Top ks c ≡ a = cc in cell-of c ty (subst (λ u. Below t u ty) (sym own) le) not

  raised : (o : Option Cell) (a b : Ty) → Below t a b → IsSomeAnd o (IsCellOf t ks a) → IsSomeAnd o (IsCellOf t ks b)
  raised None a b le h = absurd h
  raised (Some c) a b le h = (h.0, joined h.1 le)

  -- the cells of a value are of the types that a load of its letter asks
  pub value-cells :
      (cells : List Cell) (regs : List Ty) → CellsBelow t (least_types t Top ks cells) regs → (x : ℕ) (ty : Ty)
      → value_in_cells regs x ≡ Some ty → IsKept ty → IsKnown t ty → CellsAt t ks cells x (asked_types t (letter_of ty))
  value-cells cells regs le x ty v kept known = by ty kept known (value-is regs x ty v)
    where
      object-at : (a : Ty) → slice_get regs x ≡ Some a → IsNotTop a → Below t a (Class (object t)) → CellsAt t ks cells x (Class (object t) ∷ [])
      object-at a e not below = (raised (slice_get cells x) a (Class (object t)) below (cell-at cells regs le x a e not), tt)

      by : (a : Ty) → IsKept a → IsKnown t a → IsValueAt regs x a → CellsAt t ks cells x (asked_types t (letter_of a))
      by Short k known is = (cell-at cells regs le x Short is.first tt, tt)
      by IntHigh k known is = (cell-at cells regs le x IntHigh is.first tt, (cell-at cells regs le (x + 1) IntLow (is.second refl) tt, tt))
      by Null k known is = object-at Null is.first tt null_object
      by (Class c) k known is = object-at (Class c) is.first tt (objects c known)
      by ArrBool k known is = object-at ArrBool is.first tt (array_object of_booleans refl)
      by ArrByte k known is = object-at ArrByte is.first tt (array_object of_bytes refl)
      by ArrShort k known is = object-at ArrShort is.first tt (array_object of_shorts refl)
      by ArrInt k known is = object-at ArrInt is.first tt (array_object of_ints refl)
      by (ArrRef c) k known is = object-at (ArrRef c) is.first tt (array_object of_references refl)
      by Bottom k known is = absurd k
      by IntLow k known is = absurd k
      by (Fresh p c) k known is = absurd k
      by Top k known is = absurd k
