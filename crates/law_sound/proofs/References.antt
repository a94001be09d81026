-- References at a frame's turn: the object of a cell whose type lies below that of a reference.
use Rattle.vm_store.specs.declared.cell.Cell.TheVariants as cells
use Rattle.std.proofs.Common.{◌≡◌, ℕ, zero, suc, inl, inr, true, List, [], refl, sym, ap, ◌∙◌, subst, arith}
use Rattle.std.specs.Prelude.{Option, Some, None, slice_get, option_map}
use Rattle.std.proofs.lemmas.Bool.{false≢true}
use Rattle.std.proofs.lemmas.Option.{none-some, same_Some, slice_get-map}
use Rattle.jc_base.specs.declared.ty.Ty.{Ty}
use Rattle.jc_base.specs.declared.ty.Ty.TheVariants.{Short, IntHigh, IntLow, Null, Class, ArrBool, ArrByte, ArrShort, ArrInt, ArrRef, Fresh}
use Rattle.jc_base.specs.Class.{ClassTable, AreClasses}
use Rattle.jc_base.specs.Order.{Below, null_object, null_array, of_booleans, of_bytes, of_shorts, of_ints, of_references, is_below}
use Rattle.jc_base.specs.Cell.{IsReference}
use Rattle.jc_base.proofs.Subtypes.{is_below-from_Below}
use Rattle.jc_rules.specs.Flow.{IsNotTop, IsNotFresh}
use Rattle.vm_store.specs.declared.cell.Cell.{Cell}
use Rattle.vm_store.specs.declared.cell.ObjectKind.{ObjectKind}
use Rattle.vm_store.specs.Kind.{kind_of_handle, type_of_kind}
use Rattle.vm_store.specs.Typing.{least_type, type_of_handle}
use Rattle.vm_store.specs.Cells.{word_of}
use Rattle.vm_store.specs.State.{Object}
use Rattle.vm_store.specs.Objects.{object_at}
use Rattle.vm_store.specs.Laws.{HasContent}
use Rattle.law_sound.proofs.Handles.{kinds_of, kind-type, value-handle}
use Rattle.law_sound.proofs.Ready.{not-over-top, not-over-seen}

pub reference-topless : (ty : Ty) → IsReference ty → IsNotTop ty
reference-topless x h = grind (arith)

pub reference-ready : (ty : Ty) → IsReference ty → IsNotFresh ty
reference-ready x h = grind (arith)

pub null-reference : (t : ClassTable) (ty : Ty) → IsReference ty → Below t Null ty
null-reference t (Class c) h = null_object
null-reference t ArrBool h = null_array of_booleans
null-reference t ArrByte h = null_array of_bytes
null-reference t ArrShort h = null_array of_shorts
null-reference t ArrInt h = null_array of_ints
null-reference t (ArrRef c) h = null_array of_references
null-reference t _ h = absurd h

module _ (t : ClassTable) (are : AreClasses t) where
  over-short : (ty : Ty) → IsReference ty → is_below t Short ty ≡ true → ⊥
  unfolding is_below
  over-short ty r h = grind (arith, false≢true)

  over-high : (ty : Ty) → IsReference ty → is_below t IntHigh ty ≡ true → ⊥
  unfolding is_below
  over-high ty r h = grind (arith, false≢true)

  over-low : (ty : Ty) → IsReference ty → is_below t IntLow ty ≡ true → ⊥
  unfolding is_below
  over-low ty r h = grind (arith, false≢true)

  -- the word of such a cell is a handle whose type lies below it, which is null where nothing was stored
  pub reference-handle :
      (unset : Ty) (ks : List ObjectKind) (c : Cell) (ty : Ty) → IsReference ty → Below t (least_type t unset ks c) ty
      → Below t (type_of_handle t ks (word_of c)) ty
  reference-handle unset ks cells.Empty ty r b = null-reference t ty r
  reference-handle unset ks (cells.Short n) ty r b = absurd (over-short ty r (is_below-from_Below t are b))
  reference-handle unset ks (cells.High n) ty r b = absurd (over-high ty r (is_below-from_Below t are b))
  reference-handle unset ks (cells.Low n) ty r b = absurd (over-low ty r (is_below-from_Below t are b))
  reference-handle unset ks (cells.Ref n) ty r b = b
  reference-handle unset ks (cells.Fresh zero p) ty r b = absurd (not-over-top t are ty (reference-topless ty r) b)
  reference-handle unset ks (cells.Fresh (suc n) p) ty r b =
      absurd (not-over-seen t are p (slice_get ks n) ty (reference-ready ty r) (reference-topless ty r) b)

  -- and its least type is that of the handle, where something was stored
  pub reference-same :
      (unset : Ty) (ks : List ObjectKind) (c : Cell) (ty : Ty) → IsReference ty → HasContent c → Below t (least_type t unset ks c) ty
      → least_type t unset ks c ≡ type_of_handle t ks (word_of c)
  reference-same unset ks z ty r h b =
      grind (arith, over-short, is_below-from_Below, over-high, over-low, not-over-top, reference-topless, not-over-seen, reference-ready)

-- the object of a handle that is not null
pub record IsObject (t : ClassTable) (heap : List (Object Cell)) (h : ℕ) (ty : Ty) : Type 0 where
  pub object : Object Cell
  pub found : object_at (record { frames = []; heap = heap; statics = [] }) h ≡ Some object
  pub kind_is : kind_of_handle (kinds_of heap) h ≡ Some object.kind
  pub below : Below t (type_of_kind t object.kind) ty

object-found : (heap : List (Object Cell)) (h : ℕ) (k : ObjectKind) → kind_of_handle (kinds_of heap) h ≡ Some k
    → (o : Object Cell) × (object_at (record { frames = []; heap = heap; statics = [] }) h ≡ Some o) × (o.kind ≡ k)
object-found heap zero k e = absurd (none-some k e)
object-found heap (suc h) k e = go (slice_get heap h) refl
  where
    go : (p : Option (Object Cell)) → slice_get heap h ≡ p → (o : Object Cell) × (slice_get heap h ≡ Some o) × (o.kind ≡ k)
    go None f =
        let none : ◌≡◌ {A = Option ObjectKind} None (Some k) = ap (option_map (λ (o : Object Cell). o.kind)) (sym f)
        ∙ (sym (slice_get-map (λ (o : Object Cell). o.kind) heap h) ∙ e) in
        absurd (none-some k none)
    go (Some o) f =
        let some : Some o.kind ≡ Some k = ap (option_map (λ (o : Object Cell). o.kind)) (sym f)
        ∙ (sym (slice_get-map (λ (o : Object Cell). o.kind) heap h) ∙ e) in
        (o, f, same_Some o.kind k some)

pub handle-object :
    (t : ClassTable) → AreClasses t → (heap : List (Object Cell)) (h : ℕ) (ty : Ty) → IsNotTop ty → (h ≡ 0 → ⊥)
    → Below t (type_of_handle t (kinds_of heap) h) ty → IsObject t heap h ty
handle-object t are heap h ty top some b = elim (value-handle t are (kinds_of heap) h ty top b) [
  | inl null ↦ absurd (some null)
  | inr found ↦
      let o = object-found heap h found.0 found.1 in
      let kind : kind_of_handle (kinds_of heap) h ≡ Some o.0.kind = found.1 ∙ ap Some (sym o.2) in
      record {
        object = o.0;
        found = o.1;
        kind_is = kind;
        below = subst (λ a. Below t a ty) (kind-type t (kinds_of heap) h o.0.kind kind) b;
      }
]
