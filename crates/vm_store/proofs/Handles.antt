-- The object of a handle, where the objects lie in memory one after another.
use Rattle.std.proofs.Common.{◌≡◌, ℕ, zero, suc, ◌+◌, ◌-◌, ◌*◌, ◌/◌, ◌<◌, ◌≤◌, List, [], ◌∷◌, length, take, drop, set}
use Rattle.std.proofs.Common.{get_or, refl, sym, ◌∙◌, ap, subst, arith, length-drop, length-take}
use Rattle.std.specs.Prelude.{Option, Some, None, IsSome, slice_get, option_map}
use Rattle.std.proofs.lemmas.Option.{slice_get-map, slice_get-get_or}
use Rattle.std.proofs.lemmas.List.{get_or-take, get_or-drop, length-map}
use Rattle.std.proofs.lemmas.Bool.{false≢true}
use Rattle.vm_store.specs.declared.cell.ObjectKind.{ObjectKind}
use Rattle.vm_store.specs.declared.cell.ObjectHeader.{ObjectHeader}
use Rattle.vm_store.specs.Kind.{element_width, kind_of_handle}
use Rattle.vm_store.specs.State.{Object, State}
use Rattle.vm_store.specs.Objects.{write_object, cells_in, object_at, object_cells, kinds, element_count, with_object_cell}
use Rattle.vm_store.specs.Layout.{size, object_in, objects_in, Follow}
use Rattle.vm_store.proofs.Heaps.{end-le, write_inside}

-- the number of elements, from the number of cells
elements_of : (kind : ObjectKind) (n cells : ℕ) → cells ≡ element_width kind * n → cells / element_width kind ≡ n
elements_of kind n cells e = grind (arith)

some-past : {A : Type 0} (xs : List A) (i : ℕ) → IsSome (slice_get xs i) → i < length xs
some-past [] i h = absurd (false≢true h)
some-past (x ∷ xs) zero h = omega arith
some-past (x ∷ xs) (suc i) h = let r = some-past xs i h in omega (arith, r)

-- the number of a handle's header
pub record IsHandle (hs : List ObjectHeader) (handle : ℕ) : Type 0 where
  pub counted : 0 < handle
  pub within : handle - 1 < length hs

module _ {A : Type 0} (s : State A) (xs : List A) (hs : List ObjectHeader) (end : ℕ) (heap : s.heap ≡ objects_in xs hs) (follow : Follow 0 hs end)
    (enough : end ≤ length xs) (d : ObjectHeader) where
  found : (k : ℕ) → k < length hs → slice_get s.heap k ≡ Some (object_in xs (get_or hs k d))
  found k lt = ap (λ os. slice_get os k) heap ∙ (slice_get-map (object_in xs) hs k ∙ ap (option_map (object_in xs)) (slice_get-get_or hs k d lt))

  count : length s.heap ≡ length hs
  count = ap length heap ∙ length-map hs (object_in xs)

  pub is_handle : (handle : ℕ) → IsSome (object_at s handle) → IsHandle hs handle
  is_handle zero h = absurd (false≢true h)
  is_handle (suc k) h = grind (arith, some-past, count)

  pub object_is : (handle : ℕ) → IsHandle hs handle → object_at s handle ≡ Some (object_in xs (get_or hs (handle - 1) d))
  object_is zero h = absurd (omega (arith, h.counted))
  object_is (suc k) h = grind (arith, suc, length, found, get_or)

  pub kind_is : (handle : ℕ) → IsHandle hs handle → kind_of_handle (kinds s) handle ≡ Some (get_or hs (handle - 1) d).kind
  kind_is zero h = absurd (omega (arith, h.counted))
  kind_is (suc k) h = grind (arith, suc, length, slice_get-map, found, get_or)

  -- its cells
  pub whole : (handle : ℕ) → IsHandle hs handle → length (take (size (get_or hs (handle - 1) d)) (drop (get_or hs (handle - 1) d).start xs))
      ≡ size (get_or hs (handle - 1) d)
  whole handle h = grind (arith, get_or, end-le, length-take, drop, length-drop)

  pub elements_are : (handle : ℕ) → IsHandle hs handle → option_map element_count (object_at s handle) ≡ Some (get_or hs (handle - 1) d).elements
  elements_are handle h = grind (arith, get_or, object_is, elements_of, whole)

  some_cell : (handle i : ℕ) → i < length (object_cells s handle) → IsSome (object_at s handle)
  some_cell zero i lt = absurd (omega (arith, lt))
  some_cell (suc k) i lt = go (slice_get s.heap k) lt
    where
      go : (o : Option (Object A)) → i < length (cells_in o) → IsSome o
      go None lt = absurd (omega (arith, lt))
      go (Some o) lt = refl

  pub cell_handle : (handle i : ℕ) → i < length (object_cells s handle) → IsHandle hs handle
  cell_handle handle i lt = is_handle handle (some_cell handle i lt)

  cells_are : (handle : ℕ) → IsHandle hs handle → object_cells s handle ≡ take (size (get_or hs (handle - 1) d))
      (drop (get_or hs (handle - 1) d).start xs)
  cells_are handle h = ap cells_in (object_is handle h)

  pub cell_within : (handle i : ℕ) → i < length (object_cells s handle) → i < size (get_or hs (handle - 1) d)
  cell_within handle i lt = grind (arith, cell_handle handle i lt, length, cells_are, whole)

  pub cell_place : (handle i : ℕ) → i < length (object_cells s handle) → (get_or hs (handle - 1) d).start + i < end
  cell_place handle i lt = grind (arith, cell_handle handle i lt, cell_within handle i lt, end-le)

  pub cell_read : (handle i : ℕ) → i < length (object_cells s handle) → (e : A) → get_or (object_cells s handle) i e
      ≡ get_or xs ((get_or hs (handle - 1) d).start + i) e
  cell_read handle i lt e =
      let x = get_or hs (handle - 1) d in
      ap (λ cs. get_or cs i e) (cells_are handle (cell_handle handle i lt))
      ∙ (get_or-take (size x) (drop x.start xs) i e (cell_within handle i lt) ∙ get_or-drop x.start xs i e)

  pub cell_written :
      (handle i : ℕ) (v : A) → i < length (object_cells s handle)
      → with_object_cell s handle i v ≡ record s { heap = objects_in (set xs ((get_or hs (handle - 1) d).start + i) v) hs }
  cell_written zero i v lt = absurd (omega (arith, lt))
  cell_written (suc k) i v lt =
      let e : suc k - 1 ≡ k = omega arith in
      let h = cell_handle (suc k) i lt in
      let few : k < length hs = omega (arith, h.within) in
      let inside : i < size (get_or hs k d) = subst (λ n. i < size (get_or hs n d)) e (cell_within (suc k) i lt) in
      let put : List (Object A) → State A = λ os. record s { heap = os } in
      ap (λ os. put (write_object os k i v)) heap
      ∙ (ap put (write_inside xs 0 hs end k i v d follow few inside)
      ∙ ap (λ n. put (objects_in (set xs ((get_or hs n d).start + i) v) hs)) (sym e))
