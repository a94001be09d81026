-- The registers that operations read and write lie one after the other.
use Rattle.std.proofs.Common.{◌≡◌, ◌↔◌, ℕ, zero, suc, ◌+◌, ◌<◌, ◌≤◌, inl, inr, ⊎_elim, List, [], ◌∷◌, ◌++◌, length, reverse, refl, sym, subst, arith}
use Rattle.std.proofs.lemmas.Bool.{cases_eq}
use Rattle.std.specs.Prelude.{Contains, Option, Some, None}
use Rattle.jc_base.specs.declared.ty.Ty.{Ty}
use Rattle.jc_base.specs.declared.ty.Ty.TheVariants as types
use Rattle.jc_base.specs.World.{Linked}
use Rattle.jc_base.specs.Each.{IsAmong}
use Rattle.jc_base.proofs.Eaching.{Contains-from_IsAmong, IsAmong-from_Contains}
use Rattle.jc_base.specs.declared.ty.Kind.{Kind}
use Rattle.jc_ops.specs.declared.operation.Want.{Want}
use Rattle.jc_ops.specs.declared.operation.Want.TheVariants.{Value}
use Rattle.jc_ops.specs.declared.operation.Move.{Move}
use Rattle.jc_ops.specs.declared.operation.Arithmetic.{Arithmetic}
use Rattle.jc_ops.specs.declared.operation.Branch.{Branch}
use Rattle.jc_ops.specs.declared.operation.Holder.TheVariants as holders
use Rattle.jc_ops.specs.declared.operation.Operation.{Operation}
use Rattle.jc_ops.specs.declared.operation.Operation.TheVariants as ops
use Rattle.jc_ops.specs.declared.operation.Sort.TheVariants as sorts
use Rattle.jc_ops.specs.declared.operation.Width.{Width}
use Rattle.jc_ops.specs.declared.operation.Width.TheVariants as widths
use Rattle.jc_rules.specs.Footprint.{footprint, registers_read}
use Rattle.jc_rules.specs.Rule.{demands, arithmetic_demands, array_write_demands, branch_demands, cells_wanted, move_demands, number}
use Rattle.jc_rules.specs.Rule.{receiver_wanted, two_numbers, value_size, value_wanted}
use Rattle.jc_rules.specs.declared.demand.Demand.{Demand}
use Rattle.jc_rules.specs.declared.demand.Demand.TheVariants.{Cell, Held}
use Rattle.law_share.specs.Live.{Reads, Writes}
use Rattle.law_share.proofs.Quiet.{IsStoring, quiet-or-stores}
use Rattle.xf_allot.specs.Uses.{AreUsesOf, IsIn, span, read_by, written_by}
use Rattle.xf_live.specs.declared.set.RegisterSet.{RegisterSet}
use Rattle.xf_live.specs.Set.{Has}

-- ---- registers one after the other

abbrev those : ℕ → ℕ → List ℕ
those x zero = []
those x (suc n) = x ∷ those (x + 1) n

among-those : (x n y : ℕ) → IsAmong y (those x n) → IsIn (span x n) y
among-those x zero y among = absurd among
among-those x (suc n) y (inl here) = record { from = omega (arith, here); before = omega (arith, here) }
among-those x (suc n) y (inr later) = grind (arith, among-those (x + 1) n y later)

those-among : (x n y : ℕ) → x ≤ y → y < x + n → IsAmong y (those x n)
those-among x zero y from before = absurd (omega (arith, from, before))
those-among x (suc n) y from before = elim (cases_eq x y) [
  | inl same ↦ inl same
  | inr apart ↦ inr (those-among (x + 1) n y (omega (arith, from, apart)) (omega (arith, before)))
]

-- ---- what is read

cells-read : (n : ℕ) (tys : List Ty) (ds : List Demand) → registers_read (cells_wanted n tys ++ ds) ≡ registers_read ds
cells-read n [] ds = refl
cells-read n (ty ∷ tys) ds = cells-read (n + 1) tys ds

receiver-reads : (n : ℕ) (want : Option Want) → registers_read (receiver_wanted n want) ≡ []
receiver-reads n x = grind (arith)

value-reads : (ty : Ty) (ds : List Demand) → registers_read (value_wanted ty ++ ds) ≡ registers_read ds
value-reads x ds = grind (arith)

value-alone : (ty : Ty) → registers_read (value_wanted ty) ≡ []
value-alone x = grind (arith)

number-reads : (width : Width) (n : ℕ) → registers_read (number width n) ≡ []
number-reads x n = grind (arith)

two-read : (width : Width) → registers_read (two_numbers width) ≡ []
two-read x = grind (arith)

moves-read : (m : Move) → registers_read (move_demands m) ≡ []
moves-read x = grind (arith)

arithmetic-reads : (a : Arithmetic) → registers_read (arithmetic_demands a) ≡ []
arithmetic-reads x = grind (arith, two-read, number-reads)

writes-read : (w : Linked) (kind : Kind) → registers_read (array_write_demands w.classes kind) ≡ []
writes-read w x = grind (arith)

branches-read : (w : Linked) (b : Branch) → registers_read (branch_demands w.classes b) ≡ []
branches-read w x = grind (arith)

reads-are : (w : Linked) (op : Operation) → registers_read (demands w op) ≡ those (read_by op).first (read_by op).count
reads-are w (ops.Constant c) = refl
reads-are w (ops.Load sorts.Reference x) = refl
reads-are w (ops.Load sorts.Short x) = refl
reads-are w (ops.Load sorts.Int x) = refl
reads-are w (ops.Store sorts.Reference x) = refl
reads-are w (ops.Store sorts.Short x) = refl
reads-are w (ops.Store sorts.Int x) = refl
reads-are w (ops.Increment widths.Short x amount) = refl
reads-are w (ops.Increment widths.Int x amount) = refl
reads-are w (ops.Move m) = moves-read m
reads-are w (ops.Arithmetic a) = arithmetic-reads a
reads-are w (ops.ArrayRead kind) = refl
reads-are w (ops.ArrayWrite kind) = writes-read w kind
reads-are w ops.ArrayLength = refl
reads-are w (ops.Branch b) = branches-read w b
reads-are w (ops.Switch width) = number-reads width 0
reads-are w (ops.StaticRead field) = refl
reads-are w (ops.StaticWrite field) = value-alone field.ty
reads-are w (ops.FieldRead field holders.Stack) = refl
reads-are w (ops.FieldRead field holders.This) = refl
reads-are w (ops.FieldWrite field holders.Stack) = value-reads field.ty (Cell (value_size field.ty) (Value (types.Class field.class)) ∷ [])
reads-are w (ops.FieldWrite field holders.This) = value-reads field.ty (Held 0 (types.Class field.class) ∷ [])
reads-are w (ops.Call callee) = grind (arith, cells-read, reverse, length, receiver-reads)
reads-are w (ops.New place class) = refl
reads-are w (ops.NewArray ty) = refl
reads-are w ops.Throw = refl
reads-are w (ops.TypeTest test ty) = refl
reads-are w (ops.Return None) = refl
reads-are w (ops.Return (Some ty)) = value-alone ty

pub reads-in : (w : Linked) (op : Operation) (x : ℕ) → IsIn (read_by op) x ↔ Reads w op x
reads-in w op x = (
  λ i. subst (λ (xs : List ℕ). Contains xs x) (sym (reads-are w op))
      (Contains-from_IsAmong x (those (read_by op).first (read_by op).count) (those-among (read_by op).first (read_by op).count x i.from i.before)),
  λ reads. among-those (read_by op).first (read_by op).count x
      (IsAmong-from_Contains x (those (read_by op).first (read_by op).count) (subst (λ (xs : List ℕ). Contains xs x) (reads-are w op) reads)),
)

-- ---- what is written

writes-are : (w : Linked) (op : Operation) → IsStoring op → ((footprint w op).register ≡ (written_by op).first)
    × ((footprint w op).written ≡ (written_by op).count)
writes-are w x is = grind (arith)

none-in : (w : Linked) (op : Operation) → (footprint w op).written ≡ 0 → (written_by op).count ≡ 0
none-in w x none = grind (arith)

pub writes-in : (w : Linked) (op : Operation) (x : ℕ) → IsIn (written_by op) x ↔ Writes w op x
writes-in w op x = ⊎_elim quiet stores (quiet-or-stores w op)
  where
    quiet : (footprint w op).written ≡ 0 → IsIn (written_by op) x ↔ Writes w op x
    quiet none =
        let also = none-in w op none in (
          λ i. (let from = i.from in let before = i.before in absurd (omega (arith, from, before, also))),
          λ h. (let from = h.from in let before = h.before in absurd (omega (arith, from, before, none))),
        )

    stores : IsStoring op → IsIn (written_by op) x ↔ Writes w op x
    stores is = grind (arith, writes-are)

-- ---- and they are asked for

-- so what has them has what the operation uses
pub both-uses :
    (w : Linked) (op : Operation) (reads writes : RegisterSet) → ((x : ℕ) → Has reads x ↔ IsIn (read_by op) x)
    → ((x : ℕ) → Has writes x ↔ IsIn (written_by op) x) → AreUsesOf w op (record { reads = reads; writes = writes })
both-uses w op reads writes r s = record {
  reads = λ x. (λ h. (reads-in w op x).0 ((r x).0 h), λ h. (r x).1 ((reads-in w op x).1 h));
  writes = λ x. (λ h. (writes-in w op x).0 ((s x).0 h), λ h. (s x).1 ((writes-in w op x).1 h));
}
