-- What is asked of the types of cells is known of the cells.
use Rattle.std.proofs.Common.{◌≡◌, ℕ, zero, suc, ◌<◌, List, [], ◌∷◌, length, refl, arith}
use Rattle.std.specs.Prelude.{IsSomeAnd, All, slice_get, slice_index_or}
use Rattle.std.proofs.lemmas.List.Elements.{All-get_or, All-cons, All-nil}
use Rattle.jc_base.specs.declared.ty.Ty.{Ty}
use Rattle.jc_base.specs.declared.ty.Ty.TheVariants.{Top}
use Rattle.jc_base.specs.declared.record.MethodRec.{MethodRec}
use Rattle.jc_base.specs.Class.{ClassTable}
use Rattle.jc_base.specs.World.{Linked}
use Rattle.vm_store.specs.declared.cell.Cell.{Cell}
use Rattle.vm_store.specs.declared.cell.Cell.TheVariants.{Empty}
use Rattle.vm_store.specs.declared.cell.ObjectKind.{ObjectKind}
use Rattle.vm_store.specs.Typing.{least_type}
use Rattle.law_sound.specs.Frames.{least_types, IsStacked}
use Rattle.law_sound.proofs.CellTypes.{IsReadyCell, ready-stacked}

-- a cell of a list is there, and has the type that is seen
pub record IsCellAt (t : ClassTable) (unset : Ty) (ks : List ObjectKind) (cs : List Cell) (n : ℕ) (P : Ty → Type 0) : Type 0 where
  pub inside : n < length cs
  pub seen : slice_index_or (least_types t unset ks cs) n Top ≡ least_type t unset ks (slice_index_or cs n Empty)
  pub holds : P (least_type t unset ks (slice_index_or cs n Empty))

pub cell-at :
    (t : ClassTable) (unset : Ty) (ks : List ObjectKind) (cs : List Cell) (n : ℕ) (P : Ty → Type 0)
    → IsSomeAnd (slice_get (least_types t unset ks cs) n) P → IsCellAt t unset ks cs n P
cell-at t unset ks [] n P h = absurd h
cell-at t unset ks (c ∷ cs) zero P h = record { inside = omega arith; seen = refl; holds = h }
cell-at t unset ks (c ∷ cs) (suc n) P h =
    let rest = cell-at t unset ks cs n P h in
    record { inside = omega (arith, rest.inside); seen = rest.seen; holds = rest.holds }

pub stacked-at : (w : Linked) (m : MethodRec) (ks : List ObjectKind) (cs : List Cell) (n : ℕ) → n < length cs → All (IsStacked w m ks) cs
    → IsStacked w m ks (slice_index_or cs n Empty)
stacked-at w m ks cs n lt all = All-get_or (IsStacked w m ks) cs n Empty lt all

-- one ready cell, and two
pub one-stacked : (w : Linked) (m : MethodRec) (ks : List ObjectKind) (c : Cell) → IsReadyCell c → All (IsStacked w m ks) (c ∷ [])
one-stacked w m ks c h = All-cons (IsStacked w m ks) c [] (ready-stacked w m ks c h) (All-nil (IsStacked w m ks))

pub two-stacked : (w : Linked) (m : MethodRec) (ks : List ObjectKind) (c d : Cell) → IsReadyCell c → IsReadyCell d
    → All (IsStacked w m ks) (c ∷ d ∷ [])
two-stacked w m ks c d h g = All-cons (IsStacked w m ks) c (d ∷ []) (ready-stacked w m ks c h) (one-stacked w m ks d g)
