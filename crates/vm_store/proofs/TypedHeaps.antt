-- Heaps whose objects are typed.
use Rattle.std.proofs.Common.{arith}
use Rattle.std.proofs.Common.{◌≡◌, ℕ, zero, suc, List, [], ◌∷◌, length, map, set, refl, sym, ap, subst, length-set}
use Rattle.std.specs.Prelude.{Some, All, IsSomeAnd, slice_get, option_and_then}
use Rattle.std.proofs.lemmas.Option.{same_Some, none-some}
use Rattle.std.proofs.lemmas.List.Elements.{All-cons, All-head, All-tail}
use Rattle.jc_base.specs.declared.ty.Ty.{Ty}
use Rattle.jc_base.specs.Class.{ClassTable}
use Rattle.vm_store.specs.declared.cell.Cell.{Cell}
use Rattle.vm_store.specs.declared.cell.ObjectKind.{ObjectKind}
use Rattle.vm_store.specs.Typing.{HasType}
use Rattle.vm_store.specs.State.{State, Object}
use Rattle.vm_store.specs.Objects.{kinds, object_cells, cells_in, write_object, with_object_cell}
use Rattle.vm_store.specs.Laws.{KeepsKinds, cell_types, HasContent, CellsHave, IsTypedObject, IsTypedHeap, cell_type_at}

-- a write keeps what every object is
pub kinds-write : {A : Type 0} (os : List (Object A)) (h i : ℕ) (c : A) → map (λ (o : Object A). o.kind) (write_object os h i c)
    ≡ map (λ (o : Object A). o.kind) os
kinds-write [] h i c = refl
kinds-write (o ∷ os) zero i c = refl
kinds-write (o ∷ os) (suc h) i c = ap (λ ks. o.kind ∷ ks) (kinds-write os h i c)

pub kinds-kept : {A : Type 0} (s : State A) (h i : ℕ) (c : A) → KeepsKinds s h i c
kinds-kept s zero i c = record { kept = refl }
kinds-kept s (suc h) i c = record { kept = kinds-write s.heap h i c }

-- a write keeps how many cells an object has
pub length-write : {A : Type 0} (os : List (Object A)) (h i : ℕ) (c : A) → length (cells_in (slice_get (write_object os h i c) h))
    ≡ length (cells_in (slice_get os h))
length-write [] h i c = refl
length-write (o ∷ os) zero i c = length-set o.cells i c
length-write (o ∷ os) (suc h) i c = length-write os h i c

pub cells-kept : {A : Type 0} (s : State A) (h i : ℕ) (c : A) → length (object_cells (with_object_cell s h i c) h) ≡ length (object_cells s h)
cells-kept s zero i c = refl
cells-kept s (suc h) i c = length-write s.heap h i c

module _ (t : ClassTable) (ks : List ObjectKind) where
  -- a cell of typed cells
  pub have-read :
      (cs : List Cell) (types : List Ty) (i : ℕ) (ty : Ty)
      → CellsHave t ks cs types → slice_get types i ≡ Some ty → IsSomeAnd (slice_get cs i) (λ c. HasType t ks c ty × HasContent c)
  have-read [] [] i ty h e = absurd (none-some ty e)
  have-read [] (u ∷ types) i ty h e = absurd h
  have-read (c ∷ cs) [] i ty h e = absurd h
  have-read (c ∷ cs) (u ∷ types) zero ty h e = subst (λ v. HasType t ks c v × HasContent c) (same_Some u ty e) (h.0, h.1)
  have-read (c ∷ cs) (u ∷ types) (suc i) ty h e = have-read cs types i ty h.2 e

  pub have-write :
      (cs : List Cell) (types : List Ty) (i : ℕ) (ty : Ty) (c : Cell)
      → CellsHave t ks cs types → slice_get types i ≡ Some ty → HasType t ks c ty → HasContent c → CellsHave t ks (set cs i c) types
  have-write [] [] i ty c h e has filled = absurd (none-some ty e)
  have-write [] (u ∷ types) i ty c h e has filled = absurd h
  have-write (d ∷ cs) [] i ty c h e has filled = absurd h
  have-write (d ∷ cs) (u ∷ types) zero ty c h e has filled = (subst (HasType t ks c) (sym (same_Some u ty e)) has, filled, h.2)
  have-write (d ∷ cs) (u ∷ types) (suc i) ty c h e has filled = (h.0, h.1, have-write cs types i ty c h.2 e has filled)

  -- an object of typed objects
  object-read :
      (os : List (Object Cell)) (h i : ℕ) (ty : Ty)
      → All (IsTypedObject t ks) os → option_and_then (λ (o : Object Cell). slice_get (cell_types t o.kind (length o.cells)) i) (slice_get os h)
      ≡ Some ty
      → IsSomeAnd (slice_get (cells_in (slice_get os h)) i) (λ c. HasType t ks c ty × HasContent c)
  object-read [] h i ty typed e = absurd (none-some ty e)
  object-read (o ∷ os) zero i ty typed e =
      have-read o.cells (cell_types t o.kind (length o.cells)) i ty (All-head (IsTypedObject t ks) o os typed) e
  object-read (o ∷ os) (suc h) i ty typed e = object-read os h i ty (All-tail (IsTypedObject t ks) o os typed) e

  object-write :
      (os : List (Object Cell)) (h i : ℕ) (ty : Ty) (c : Cell)
      → All (IsTypedObject t ks) os → option_and_then (λ (o : Object Cell). slice_get (cell_types t o.kind (length o.cells)) i) (slice_get os h)
      ≡ Some ty
      → HasType t ks c ty → HasContent c → All (IsTypedObject t ks) (write_object os h i c)
  object-write [] h i ty c typed e has filled = absurd (none-some ty e)
  object-write (o ∷ os) zero i ty c typed e has filled =
      let now : CellsHave t ks (set o.cells i c) (cell_types t o.kind (length o.cells)) =
      have-write o.cells (cell_types t o.kind (length o.cells)) i ty c (All-head (IsTypedObject t ks) o os typed) e has filled in
      let same : length o.cells ≡ length (set o.cells i c) = sym (length-set o.cells i c) in
      All-cons (IsTypedObject t ks) (record { kind = o.kind; cells = set o.cells i c }) os
      (subst (λ n. CellsHave t ks (set o.cells i c) (cell_types t o.kind n)) same now) (All-tail (IsTypedObject t ks) o os typed)
  object-write (o ∷ os) (suc h) i ty c typed e has filled =
      All-cons (IsTypedObject t ks) o (write_object os h i c) (All-head (IsTypedObject t ks) o os typed)
      (object-write os h i ty c (All-tail (IsTypedObject t ks) o os typed) e has filled)

pub heap-read :
    (t : ClassTable) (s : State Cell) (h i : ℕ) (ty : Ty)
    → IsTypedHeap t s → cell_type_at t s h i ≡ Some ty → IsSomeAnd (slice_get (object_cells s h) i) (λ c. HasType t (kinds s) c ty × HasContent c)
heap-read t s zero i ty typed e = absurd (none-some ty e)
heap-read t s (suc h) i ty typed e = object-read t (kinds s) s.heap h i ty typed e

pub heap-write :
    (t : ClassTable) (s : State Cell) (h i : ℕ) (ty : Ty) (c : Cell)
    → IsTypedHeap t s → cell_type_at t s h i ≡ Some ty → HasType t (kinds s) c ty → HasContent c → IsTypedHeap t (with_object_cell s h i c)
heap-write t s zero i ty c typed e has filled = absurd (none-some ty e)
heap-write t s (suc h) i ty c typed e has filled = grind (arith, object-write, kinds-write)
