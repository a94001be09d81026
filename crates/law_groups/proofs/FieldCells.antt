-- The cells that a write of a field takes from the stack, and the objects after it.
use Rattle.std.proofs.Common.{◌≡◌, ℕ, zero, suc, ◌+◌, ◌≤◌, List, [], ◌∷◌, ◌++◌, length, map, sym}
use Rattle.std.proofs.Common.{subst, arith}
use Rattle.std.specs.Prelude.{Option, Some, Ok, IsSomeAnd, drop, slice_get}
use Rattle.jc_base.specs.Cell.{IsNoHalf, IsOfKind, width}
use Rattle.jc_base.specs.Class.{AreClasses, ClassTable}
use Rattle.jc_base.specs.Laws.{IsOrderOfTypes}
use Rattle.jc_base.specs.Order.{Below}
use Rattle.jc_base.specs.World.{Linked}
use Rattle.jc_base.specs.declared.ty.Kind.{Kind}
use Rattle.jc_base.specs.declared.ty.Kind.TheVariants as kinds_of
use Rattle.jc_base.specs.declared.ty.Ty.{Ty}
use Rattle.jc_base.specs.declared.ty.Ty.TheVariants.{Bottom, Short, IntHigh, IntLow, Class}
use Rattle.jc_ops.specs.declared.operation.Move.TheVariants as moves
use Rattle.jc_ops.specs.declared.operation.Operation.TheVariants as ops
use Rattle.jc_ops.specs.declared.operation.Want.TheVariants.{Value}
use Rattle.jc_rules.specs.declared.demand.Demand.{Demand}
use Rattle.jc_rules.specs.declared.demand.Demand.TheVariants.{Registers, Cell as CellAt, Held}
use Rattle.jc_rules.specs.Demand.{Frame as Types, SatisfiesAll}
use Rattle.jc_rules.specs.Footprint.{registers_asked, registers_read}
use Rattle.jc_rules.specs.Rule.{value_wanted, value_size}
use Rattle.vm_store.specs.declared.cell.Cell.{Cell}
use Rattle.vm_store.specs.declared.cell.ObjectKind.{ObjectKind}
use Rattle.vm_store.specs.Typing.{least_type}
use Rattle.vm_store.specs.Cells.{tagged}
use Rattle.vm_store.specs.Objects.{write_object}
use Rattle.vm_store.specs.State.{Object}
use Rattle.vm_store.specs.Value.{value_on}
use Rattle.vm_step.specs.Values.{moved}
use Rattle.law_sound.specs.Frames.{least_types}
use Rattle.law_alike.specs.Alike.{renamed_cell}
use Rattle.law_alike.proofs.Cells.{value-stays}
use Rattle.law_rewritten_typing.proofs.WholeStacks.{low-only}
use Rattle.jc_base.specs.Cell.{IsReference}
use Rattle.jc_rules.specs.declared.demand.Demand.TheVariants.{Depth, Cut}
use Rattle.jc_rules.specs.Flow.{IsNotFresh, IsNotTop}
use Rattle.vm_store.specs.State.{nth}
use Rattle.jc_base.specs.declared.record.MethodRec.{MethodRec}
use Rattle.jc_ops.specs.Resolve.{Resolves}
use Rattle.xf_emission.specs.Move.{with_byte}
use Rattle.law_rewritten_typing.proofs.Rows.{swap-one-is, swap-two-is}
use Rattle.xf_emission.specs.Group.{swap_words}
use Rattle.xf_emission.specs.Mnemonics.{swap_x}

-- ---- what is asked

module _ (t : ClassTable) (k : Types) where
  abbrev One : Ty → Type 0
  One T = IsSomeAnd (slice_get k.stack 0) (λ u. Below t u T)

  pub one-asked : (T : Ty) (ds : List Demand) → IsNoHalf T → SatisfiesAll t k (value_wanted T ++ ds)
      → IsSomeAnd (slice_get k.stack 0) (λ u. Below t u T) × SatisfiesAll t k ds
  one-asked x ds n h = grind (arith)

  pub one-gives : (T : Ty) (ds : List Demand) → IsNoHalf T → IsSomeAnd (slice_get k.stack 0) (λ u. Below t u T) → SatisfiesAll t k ds
      → SatisfiesAll t k (value_wanted T ++ ds)
  one-gives x ds n h g = grind (arith)

  pub last-held : (T : Ty) (c : ℕ) → SatisfiesAll t k (value_wanted T ++ Held 0 (Class c) ∷ [])
      → IsSomeAnd (slice_get k.regs 0) (λ u. Below t u (Class c))
  last-held x c h = grind (arith)

pub asked-this : (T : Ty) (c : ℕ) → registers_asked (Registers 0 1 ∷ (value_wanted T ++ Held 0 (Class c) ∷ [])) ≡ 1
asked-this x c = grind (arith)

pub read-this : (T : Ty) (c : ℕ) → registers_read (Registers 0 1 ∷ (value_wanted T ++ Held 0 (Class c) ∷ [])) ≡ 0 ∷ []
read-this x c = grind (arith)

-- ---- objects

abbrev pub put : List (Object Cell) → ℕ → ℕ → Cell → List (Object Cell)
put heap zero i c = heap
put heap (suc h) i c = write_object heap h i c

-- objects after a write of a value
abbrev pub written : List (Object Cell) → ℕ → ℕ → List Cell → List (Object Cell)
written heap h i [] = heap
written heap h i (c ∷ cs) = written (put heap h i c) h (i + 1) cs

pub drop-shorter : (k : ℕ) (cs : List Cell) → length (drop k cs) ≤ length cs
drop-shorter zero cs = omega arith
drop-shorter (suc k) [] = omega arith
drop-shorter (suc k) (c ∷ cs) = omega (arith, drop-shorter k cs)

-- ---- an object put under a value

-- after a swap the value is on top and the object below it, and the stack below both is that below the value before
pub record Swaps (t : ClassTable) (ks : List ObjectKind) (k : ℕ) (val : List Cell → List Cell) (ty : Ty) (class : ℕ) (e : ℕ → ℕ)
    (regs : List Ty) (c : Cell) (stack other : List Cell) : Type 0 where
  pub value : val (moved (moves.Exchange 1 k) (c ∷ other)) ≡ val stack
  pub handle : nth tagged (moved (moves.Exchange 1 k) (c ∷ other)) k ≡ c
  pub rest : drop (k + 1) (moved (moves.Exchange 1 k) (c ∷ other)) ≡ map (renamed_cell e) (drop (k + 0) stack)
  pub size : length (moved (moves.Exchange 1 k) (c ∷ other)) ≡ suc (length other)
  pub cut : SatisfiesAll t (record { regs = regs; stack = least_types t Bottom ks (c ∷ other) }) (Depth 1 ∷ Cut 1 ∷ Depth (1 + k) ∷ Cut (1 + k) ∷ [])
  pub write : SatisfiesAll t (record { regs = regs; stack = least_types t Bottom ks (moved (moves.Exchange 1 k) (c ∷ other)) })
      (value_wanted ty ++ CellAt (value_size ty) (Value (Class class)) ∷ [])

-- the type of a value in one cell
record IsOne (ty : Ty) : Type 0 where
  half : IsNoHalf ty
  fresh : IsNotFresh ty
  top : IsNotTop ty

one-of : (ty : Ty) → IsReference ty → IsOne ty
one-of x r = grind (arith)

module _ (t : ClassTable) (are : AreClasses t) (types : IsOrderOfTypes t) (ks : List ObjectKind) (class : ℕ) (e : ℕ → ℕ) (regs : List Ty) (c : Cell)
    (object_is : Below t (least_type t Bottom ks c) (Class class)) where
  never-low : (ty u : Ty) → IsNoHalf ty → IsNotTop ty → Below t u ty → ◌≡◌ {A = Option Ty} (Some u) (Some IntLow) → ⊥
  never-low ty u half top below is = grind (arith, low-only)

  low-high : (u : Ty) → Below t u IntHigh → ◌≡◌ {A = Option Ty} (Some u) (Some IntLow) → ⊥
  low-high u below is = grind (arith, low-only)

  one-swaps : (ty : Ty) (stack : List Cell) → IsOne ty → IsSomeAnd (slice_get (least_types t Bottom ks stack) 0) (λ u. Below t u ty)
      → Swaps t ks 1 (λ cs. nth tagged cs 0 ∷ []) ty class e regs c stack (map (renamed_cell e) stack)
  one-swaps ty [] one h = absurd h
  one-swaps ty (a ∷ r) one h = grind (arith, value-stays, never-low, one-gives)

  two-swaps : (stack : List Cell)
      → IsSomeAnd (slice_get (least_types t Bottom ks stack) 0) (λ u. Below t u IntLow) → IsSomeAnd (slice_get (least_types t Bottom ks stack) 1)
      (λ u. Below t u IntHigh)
      → Swaps t ks 2 (λ cs. nth tagged cs 1 ∷ nth tagged cs 0 ∷ []) IntHigh class e regs c stack (map (renamed_cell e) stack)
  two-swaps [] l h = absurd l
  two-swaps (a ∷ []) l h = absurd h
  two-swaps (a ∷ b ∷ r) l h = grind (arith, value-stays, never-low, low-high)

  short :
      (ty : Ty) (stack : List Cell) (more : List Ty) → ty ≡ Short
      → SatisfiesAll t (record { regs = more; stack = least_types t Bottom ks stack }) (value_wanted ty ++ Held 0 (Class class) ∷ [])
      → Swaps t ks 1 (λ cs. nth tagged cs 0 ∷ []) ty class e regs c stack (map (renamed_cell e) stack)
  short ty stack more is h = grind (arith, one-swaps)

  -- what a write of a field asks of the source lets the steps of the target run
  pub swaps :
      (kind : Kind) (ty : Ty) (stack : List Cell) (more : List Ty) → IsOfKind kind ty
      → SatisfiesAll t (record { regs = more; stack = least_types t Bottom ks stack }) (value_wanted ty ++ Held 0 (Class class) ∷ [])
      → Swaps t ks (width kind) (λ cs. value_on tagged kind cs) ty class e regs c stack (map (renamed_cell e) stack)
  swaps kinds_of.Ref ty stack more is h =
      let one = one-of ty is in
      one-swaps ty stack one (one-asked t (record { regs = more; stack = least_types t Bottom ks stack }) ty (Held 0 (Class class) ∷ []) one.half h).0
  swaps kinds_of.Byte ty stack more is h = short ty stack more is h
  swaps kinds_of.Short ty stack more is h = short ty stack more is h
  swaps kinds_of.Int ty stack more is h =
      let g = subst
      (λ (a : Ty). SatisfiesAll t (record { regs = more; stack = least_types t Bottom ks stack }) (value_wanted a ++ Held 0 (Class class) ∷ [])) is
      h in
      subst (λ (a : Ty). Swaps t ks 2 (λ cs. nth tagged cs 1 ∷ nth tagged cs 0 ∷ []) a class e regs c stack (map (renamed_cell e) stack)) (sym is)
      (two-swaps stack g.0 g.1.0)

-- swap_x of one word and those of a value
pub swap-is : (w : Linked) (r : MethodRec) (n : ℕ) (kind : Kind)
    → Resolves w r n (with_byte swap_x (swap_words kind)) (Ok (ops.Move (moves.Exchange 1 (width kind))))
swap-is w r n kinds_of.Ref = sym (swap-one-is w r n)
swap-is w r n kinds_of.Byte = sym (swap-one-is w r n)
swap-is w r n kinds_of.Short = sym (swap-one-is w r n)
swap-is w r n kinds_of.Int = sym (swap-two-is w r n)
