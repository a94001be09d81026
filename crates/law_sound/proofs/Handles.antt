-- The objects of handles, and their types.
use Rattle.std.proofs.Common.{◌≡◌, ℕ, zero, suc, ◌+◌, ◌⊎◌, inl, inr, List, [], ◌∷◌, ◌++◌, length, map, refl, sym, ap, subst, arith}
use Rattle.std.specs.Prelude.{Option, Some, None, slice_get}
use Rattle.std.proofs.lemmas.List.{length-map, map-append}
use Rattle.std.proofs.lemmas.Option.{none-some}
use Rattle.jc_base.specs.declared.ty.Ty.{Ty}
use Rattle.jc_base.specs.Class.{ClassTable, AreClasses}
use Rattle.jc_base.specs.Order.{Below}
use Rattle.jc_base.proofs.Lists.{slice_get-farther}
use Rattle.jc_rules.specs.Flow.{IsNotTop}
use Rattle.vm_store.specs.declared.cell.Cell.{Cell}
use Rattle.vm_store.specs.declared.cell.ObjectKind.{ObjectKind}
use Rattle.vm_store.specs.Kind.{kind_of_handle, type_of_kind}
use Rattle.vm_store.specs.Typing.{type_of_handle, type_seen}
use Rattle.vm_store.specs.State.{Object}
use Rattle.law_sound.proofs.Ready.{not-over-top}

-- what objects are
abbrev pub kinds_of : List (Object Cell) → List ObjectKind
kinds_of heap = map (λ (o : Object Cell). o.kind) heap

pub kind-type : (t : ClassTable) (ks : List ObjectKind) (h : ℕ) (k : ObjectKind) → kind_of_handle ks h ≡ Some k
    → type_of_handle t ks h ≡ type_of_kind t k
kind-type t ks zero k e = absurd (none-some k e)
kind-type t ks (suc h) k e = ap (type_seen t) e

-- the handle of a new object
last-kind : (ks : List ObjectKind) (k : ObjectKind) → slice_get (ks ++ k ∷ []) (length ks) ≡ Some k
last-kind ks k = slice_get-farther ks (k ∷ []) 0 (length ks) (omega arith)

pub new-kind : (heap : List (Object Cell)) (o : Object Cell) → kind_of_handle (kinds_of heap ++ o.kind ∷ []) (length heap + 1) ≡ Some o.kind
new-kind heap o =
    let e : length heap + 1 ≡ suc (length heap) = omega arith in
    subst (λ h. kind_of_handle (kinds_of heap ++ o.kind ∷ []) h ≡ Some o.kind) (sym e)
    (subst (λ n. slice_get (kinds_of heap ++ o.kind ∷ []) n ≡ Some o.kind) (length-map heap (λ (x : Object Cell). x.kind))
    (last-kind (kinds_of heap) o.kind))

pub kinds-more : (heap : List (Object Cell)) (o : Object Cell) → kinds_of (heap ++ o ∷ []) ≡ kinds_of heap ++ o.kind ∷ []
kinds-more heap o = map-append (λ (x : Object Cell). x.kind) heap (o ∷ [])

-- a handle whose least type lies below that of a value is null, or that of an object
pub value-handle :
    (t : ClassTable) → AreClasses t → (ks : List ObjectKind) (h : ℕ) (ty : Ty) → IsNotTop ty → Below t (type_of_handle t ks h) ty
    → (h ≡ 0) ⊎ ((k : ObjectKind) × (kind_of_handle ks h ≡ Some k))
value-handle t are ks zero ty n b = inl refl
value-handle t are ks (suc h) ty n b = go (slice_get ks h) refl b
  where
    go : (o : Option ObjectKind) → slice_get ks h ≡ o → Below t (type_seen t o) ty → (suc h ≡ 0) ⊎ ((k : ObjectKind) × (slice_get ks h ≡ Some k))
    go None e c = absurd (not-over-top t are ty n c)
    go (Some k) e c = inr (k, e)
