-- Cells whose least types lie below a type that values have.
use Rattle.std.proofs.Common.{◌≡◌, ℕ, true, List, arith}
use Rattle.std.specs.Prelude.{Option}
use Rattle.std.proofs.lemmas.Bool.{false≢true}
use Rattle.jc_base.specs.declared.ty.Ty.{Ty}
use Rattle.jc_base.specs.declared.ty.Ty.TheVariants.{Fresh, Top}
use Rattle.jc_base.specs.Class.{ClassTable, AreClasses}
use Rattle.jc_base.specs.Order.{Below, is_below}
use Rattle.jc_base.proofs.Subtypes.{is_below-from_Below}
use Rattle.jc_rules.specs.Flow.{IsNotFresh, IsNotTop}
use Rattle.vm_store.specs.declared.cell.Cell.{Cell}
use Rattle.vm_store.specs.declared.cell.ObjectKind.{ObjectKind}
use Rattle.vm_store.specs.Typing.{least_type, fresh_seen}
use Rattle.vm_store.specs.Laws.{HasContent}
use Rattle.law_sound.proofs.CellTypes.{IsReadyCell}

module _ (t : ClassTable) (are : AreClasses t) where
  over-top : (ty : Ty) → IsNotTop ty → is_below t Top ty ≡ true → ⊥
  unfolding is_below
  over-top ty n h = grind (arith, false≢true)

  over-fresh : (p c : ℕ) (ty : Ty) → IsNotFresh ty → IsNotTop ty → is_below t (Fresh p c) ty ≡ true → ⊥
  unfolding is_below
  over-fresh p c ty f n h = grind (arith, false≢true)

  pub not-over-top : (ty : Ty) → IsNotTop ty → Below t Top ty → ⊥
  not-over-top ty n b = over-top ty n (is_below-from_Below t are b)

  pub not-over-fresh : (p c : ℕ) (ty : Ty) → IsNotFresh ty → IsNotTop ty → Below t (Fresh p c) ty → ⊥
  not-over-fresh p c ty f n b = over-fresh p c ty f n (is_below-from_Below t are b)

  pub not-over-seen : (p : ℕ) (o : Option ObjectKind) (ty : Ty) → IsNotFresh ty → IsNotTop ty → Below t (fresh_seen p o) ty → ⊥
  not-over-seen p o ty f n b = grind (arith, not-over-fresh, not-over-top)

  -- such a cell is ready
  pub value-ready :
      (unset : Ty) (ks : List ObjectKind) (c : Cell) (ty : Ty)
      → HasContent c → IsNotFresh ty → IsNotTop ty → Below t (least_type t unset ks c) ty → IsReadyCell c
  value-ready unset ks z ty h f n b = grind (arith, not-over-top, not-over-seen)
