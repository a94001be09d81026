-- A new object, by its handle, and one of which a cell is written.
use Rattle.std.proofs.Common.{◌≡◌, ℕ, zero, suc, ◌+◌, ◌*◌, List, [], ◌∷◌, ◌++◌, length, refl, sym, ◌∙◌, ap, subst, arith}
use Rattle.std.proofs.lemmas.Bool.{false≢true}
use Rattle.std.specs.Prelude.{Some, IsSome, slice_get}
use Rattle.vm_store.specs.declared.cell.ObjectKind.{ObjectKind}
use Rattle.vm_store.specs.declared.cell.ObjectKind.TheVariants.{Instance}
use Rattle.jc_base.specs.Class.{ClassTable, IsClass, chain, chain_over, parent_of}
use Rattle.jc_base.specs.Dispatch.{cells_of, own_cells}
use Rattle.jc_tests.specs.OneMethod.{classes as sample_classes}
use Rattle.jc_tests.proofs.OneMethod.{is_first}
use Rattle.vm_store.specs.State.{Object, State}
use Rattle.vm_store.specs.Kind.{element_width}
use Rattle.vm_store.specs.Cells.{Cells}
use Rattle.vm_store.specs.Objects.{array_cells, new_instance_cells, cells_in, object_at, object_cells, with_object, with_object_cell, write_object}
use Rattle.vm_store.proofs.Fills.{length-array}
use Rattle.vm_store.proofs.TypedHeaps.{length-write}

last-object : {A : Type 0} (os : List (Object A)) (o : Object A) → slice_get (os ++ o ∷ []) (length os) ≡ Some o
last-object [] o = refl
last-object (p ∷ os) o = last-object os o

pub made_object : {A : Type 0} (s : State A) (kind : ObjectKind) (cells : List A)
    → object_at (with_object s kind cells) (length s.heap + 1) ≡ Some (record { kind = kind; cells = cells })
made_object s kind cells =
    let next : length s.heap + 1 ≡ suc (length s.heap) = omega arith in
    ap (object_at (with_object s kind cells)) next ∙ last-object s.heap (record { kind = kind; cells = cells })

-- the cells of a new array
pub made_cells : {A : Type 0} (k : Cells A) (s t : State A) (kind : ObjectKind) (count h : ℕ)
    → t ≡ with_object s kind (array_cells k kind count) → h ≡ length s.heap + 1 → length (object_cells t h) ≡ element_width kind * count
made_cells k s t kind count h made at =
    ap (λ x. length (cells_in x))
    (ap (λ x. object_at x h) made
    ∙ (ap (object_at (with_object s kind (array_cells k kind count))) at ∙ made_object s kind (array_cells k kind count)))
    ∙ length-array k kind count

-- and of a new instance of the class that has a field of each kind
pub made_instance : {A : Type 0} (k : Cells A) (s t : State A) (classes : ClassTable) (h : ℕ)
    → classes ≡ sample_classes → t ≡ with_object s (Instance 2) (new_instance_cells k classes 2) → h ≡ length s.heap + 1
    → length (object_cells t h) ≡ 4
unfolding cells_of own_cells chain chain_over parent_of
made_instance k s t classes h is made at =
    ap (λ x. length (cells_in x))
    (ap (λ x. object_at x h) made
    ∙ (ap (object_at (with_object s (Instance 2) (new_instance_cells k classes 2))) at
    ∙ made_object s (Instance 2) (new_instance_cells k classes 2)))
    ∙ ap (λ t. length (new_instance_cells k t 2)) is

pub four_cells : (classes : ClassTable) → classes ≡ sample_classes → length (cells_of classes 2) ≡ 4
unfolding cells_of own_cells chain chain_over parent_of
four_cells classes is = ap (λ t. length (cells_of t 2)) is

pub is_class : (classes : ClassTable) → classes ≡ sample_classes → IsClass classes 2
is_class classes is = subst (λ t. IsClass t 2) (sym is) is_first

pub made_there : {A : Type 0} (s t : State A) (kind : ObjectKind) (cells : List A) (h : ℕ)
    → t ≡ with_object s kind cells → h ≡ length s.heap + 1 → IsSome (object_at t h)
made_there s t kind cells h made at =
    subst (λ x. IsSome x) (sym (ap (λ x. object_at x h) made ∙ (ap (object_at (with_object s kind cells)) at ∙ made_object s kind cells))) refl

-- ---- an object of which a cell is written

written-there : {A : Type 0} (os : List (Object A)) (h i : ℕ) (c : A) → IsSome (slice_get os h) → IsSome (slice_get (write_object os h i c) h)
written-there [] h i c there = there
written-there (o ∷ os) zero i c there = refl
written-there (o ∷ os) (suc h) i c there = written-there os h i c there

pub kept_cells : {A : Type 0} (s t : State A) (h i : ℕ) (c : A) → t ≡ with_object_cell s h i c → length (object_cells t h) ≡ length (object_cells s h)
kept_cells s t h i c is = ap (λ x. length (object_cells x h)) is ∙ go h
  where
    go : (h : ℕ) → length (object_cells (with_object_cell s h i c) h) ≡ length (object_cells s h)
    go zero = refl
    go (suc h) = length-write s.heap h i c

pub kept_there : {A : Type 0} (s t : State A) (h i : ℕ) (c : A) → t ≡ with_object_cell s h i c → IsSome (object_at s h) → IsSome (object_at t h)
kept_there s t h i c is there = subst (λ x. IsSome (object_at x h)) (sym is) (go h there)
  where
    go : (h : ℕ) → IsSome (object_at s h) → IsSome (object_at (with_object_cell s h i c) h)
    go zero none = absurd (false≢true none)
    go (suc h) there = written-there s.heap h i c there
