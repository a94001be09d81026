-- What the least type of a cell says of the object that it refers to.
use Rattle.std.proofs.Common.{arith}
use Rattle.std.proofs.Common.{◌≡◌, ℕ, zero, suc, ◌==◌, ◌⊎◌, inl, inr, Bool, true, false, List, [], ◌∷◌, length, IsTrue, refl, sym}
use Rattle.std.proofs.Common.{◌∙◌, subst}
use Rattle.std.specs.Prelude.{◌↔◌, Option, Some, None, All, MatchBool, map, slice_get, ⊤}
use Rattle.std.proofs.lemmas.Bool.{true≢false, eq-eqb}
use Rattle.jc_base.specs.declared.ty.Ty.{Ty}
use Rattle.jc_base.specs.declared.ty.Ty.TheVariants.{Bottom, Short, IntHigh, IntLow, Fresh, Top}
use Rattle.jc_base.specs.Class.{ClassTable}
use Rattle.jc_base.specs.Order.{Below, is_below, is_reference}
use Rattle.jc_base.proofs.Lists.{All-slice_get}
use Rattle.vm_store.specs.declared.cell.Cell.{Cell}
use Rattle.vm_store.specs.declared.cell.Cell.TheVariants as cells
use Rattle.vm_store.specs.declared.cell.ObjectKind.{ObjectKind}
use Rattle.vm_store.specs.Kind.{kind_of_handle, type_of_kind}
use Rattle.vm_store.specs.Typing.{least_type, type_of_handle, type_seen, type_of_fresh, fresh_seen}
use Rattle.vm_store.specs.Cells.{word_of}
use Rattle.vm_store.specs.State.{State, Object}
use Rattle.vm_store.specs.Objects.{kinds, object_at}
use Rattle.vm_act.specs.Found.{IsNullOr}
use Rattle.vm_check.specs.Shaped.{IsShapedObject, IsShapedFor}

-- null, or this holds
pub null-or : (h : ℕ) (P : Type 0) → (h ≡ 0) ⊎ P → IsNullOr h P
null-or h P (inl e) = subst (λ b. MatchBool b ⊤ P) (sym (eq-eqb h 0 e)) tt
null-or h P (inr p) = by (h == 0)
  where
    by : (b : Bool) → MatchBool b ⊤ P
    by true = tt
    by false = p

-- a reference type has no numbers, no objects that are not ready, and not everything
pub record HasObjects (t : ClassTable) (ty : Ty) : Type 0 where
  pub short : is_below t Short ty ≡ false
  pub high : is_below t IntHigh ty ≡ false
  pub low : is_below t IntLow ty ≡ false
  pub top : is_below t Top ty ≡ false
  pub fresh : (p c : ℕ) → is_below t (Fresh p c) ty ≡ false

pub has-objects : (t : ClassTable) (ty : Ty) → is_reference ty ≡ true → HasObjects t ty
unfolding is_below
has-objects t x h = grind (arith)

-- an object of a handle, whose type is below another
pub record HasKind (t : ClassTable) (ks : List ObjectKind) (h : ℕ) (ty : Ty) : Type 0 where
  pub kind : ObjectKind
  pub there : kind_of_handle ks h ≡ Some kind
  pub below : Below t (type_of_kind t kind) ty

module _ (t : ClassTable) (decided : (a b : Ty) → IsTrue (is_below t a b) ↔ Below t a b) where
  pub never : {X : Type 0} (a b : Ty) → Below t a b → is_below t a b ≡ false → X
  never a b h e = absurd (true≢false (sym ((decided a b).1 h) ∙ e))

  handle-object : (ks : List ObjectKind) (h : ℕ) (ty : Ty) → HasObjects t ty → Below t (type_of_handle t ks h) ty → (h ≡ 0) ⊎ HasKind t ks h ty
  handle-object ks zero ty has b = inl refl
  handle-object ks (suc h) ty has b = by (slice_get ks h) refl b
    where
      by : (o : Option ObjectKind) → slice_get ks h ≡ o → Below t (type_seen t o) ty → (suc h ≡ 0) ⊎ HasKind t ks (suc h) ty
      by None e b = never Top ty b has.top
      by (Some k) e b = inr (record { kind = k; there = e; below = b })

  fresh-never : {X : Type 0} (o : Option ObjectKind) (p : ℕ) (ty : Ty) → HasObjects t ty → Below t (fresh_seen p o) ty → X
  fresh-never x p ty has b = grind (arith, never)

  fresh-none : {X : Type 0} (ks : List ObjectKind) (h p : ℕ) (ty : Ty) → HasObjects t ty → Below t (type_of_fresh ks h p) ty → X
  fresh-none ks zero p ty has b = never Top ty b has.top
  fresh-none ks (suc h) p ty has b = fresh-never (slice_get ks h) p ty has b

  -- a cell of a reference type is empty, null or a reference to an object
  pub cell-object : (ks : List ObjectKind) (c : Cell) (ty : Ty) → is_reference ty ≡ true → Below t (least_type t Bottom ks c) ty → (word_of c ≡ 0)
      ⊎ HasKind t ks (word_of c) ty
  cell-object ks cells.Empty ty r b = inl refl
  cell-object ks (cells.Short n) ty r b = never Short ty b (has-objects t ty r).short
  cell-object ks (cells.High n) ty r b = never IntHigh ty b (has-objects t ty r).high
  cell-object ks (cells.Low n) ty r b = never IntLow ty b (has-objects t ty r).low
  cell-object ks (cells.Ref h) ty r b = handle-object ks h ty (has-objects t ty r) b
  cell-object ks (cells.Fresh h p) ty r b = fresh-none ks h p ty (has-objects t ty r) b

-- the object of a handle whose kind is known
pub record HasObject {A : Type 0} (t : ClassTable) (s : State A) (h : ℕ) (kind : ObjectKind) : Type 0 where
  pub object : Object A
  pub there : object_at s h ≡ Some object
  pub kind_is : object.kind ≡ kind
  pub shaped : IsShapedFor t kind (length object.cells)

kind-in : {A : Type 0} (heap : List (Object A)) (n : ℕ) (kind : ObjectKind) → slice_get (map (λ (o : Object A). o.kind) heap) n ≡ Some kind
    → (o : Object A) × (slice_get heap n ≡ Some o) × (o.kind ≡ kind)
kind-in [] n kind e = absurd (cc)
kind-in (o ∷ os) zero kind e = (o, refl, cc)
kind-in (o ∷ os) (suc n) kind e = kind-in os n kind e

pub has-object : {A : Type 0} (t : ClassTable) (s : State A) (h : ℕ) (kind : ObjectKind) → All (IsShapedObject t) s.heap
    → kind_of_handle (kinds s) h ≡ Some kind → HasObject t s h kind
has-object t s zero kind shaped e = absurd (cc)
has-object t s (suc h) kind shaped e =
    let found = kind-in s.heap h kind e in
    let here : IsShapedFor t found.0.kind (length found.0.cells) = All-slice_get (IsShapedObject t) s.heap h found.0 shaped found.1 in
    record {
      object = found.0;
      there = found.1;
      kind_is = found.2;
      shaped = subst (λ k. IsShapedFor t k (length found.0.cells)) found.2 here;
    }
