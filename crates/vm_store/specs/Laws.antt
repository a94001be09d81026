-- Laws of cells, objects and their types.
use Rattle.std.specs.Prelude.{◌≡◌, ℕ, ◌/◌, List, [], ◌∷◌, length, All, IsSomeAnd, slice_get, Option, Some}
use Rattle.std.specs.Prelude.{option_and_then, ⊤}
use Rattle.jc_base.specs.declared.ty.Ty.{Ty}
use Rattle.jc_base.specs.declared.ty.Ty.TheVariants.{Bottom, Short, IntHigh, IntLow, Class}
use Rattle.jc_base.specs.Class.{ClassTable, class_in_types}
use Rattle.jc_base.specs.Dispatch.{cells_of}
use Rattle.vm_store.specs.declared.cell.Cell.{Cell}
use Rattle.vm_store.specs.declared.cell.Cell.TheVariants as cells
use Rattle.vm_store.specs.declared.cell.ObjectKind.{ObjectKind}
use Rattle.vm_store.specs.declared.cell.ObjectKind.TheVariants.{Instance, Booleans, Bytes, Shorts, Ints, References}
use Rattle.vm_store.specs.Typing.{HasType, least_type, IsLeastType, FallsWithObjects}
use Rattle.vm_store.specs.Cells.{tagged, words, word_of, IsErasure}
use Rattle.vm_store.specs.State.{State, Object}
use Rattle.vm_store.specs.Objects.{kinds, object_at, object_cells, repeated, with_object_cell}

-- where an empty cell is read as of any type, the least type of each cell is the least that it has
abbrev pub LeastTypesAreLeast : ClassTable → Type 0
LeastTypesAreLeast t = (kinds : List ObjectKind) (c : Cell) → IsLeastType t kinds c (least_type t Bottom kinds c)

-- more objects only lower the least type of a cell, however an empty one is read
abbrev pub TypesFallWithObjects : ClassTable → Type 0
TypesFallWithObjects t = (unset : Ty) (kinds : List ObjectKind) (c : Cell) → FallsWithObjects t unset kinds c

-- the word of a cell carries each operation on tagged cells to that on words
abbrev pub WordsEraseCells : Type 0
WordsEraseCells = IsErasure word_of tagged words

-- a write to an object's cell keeps what every object is
pub record KeepsKinds {A : Type 0} (s : State A) (h i : ℕ) (c : A) : Type 0 where
  pub kept : kinds (with_object_cell s h i c) ≡ kinds s

abbrev pub WritesKeepKinds : Type 0
WritesKeepKinds = ((s : State Cell) (h i : ℕ) (c : Cell) → KeepsKinds s h i c) × ((s : State ℕ) (h i c : ℕ) → KeepsKinds s h i c)

-- ---- typed objects

-- the types of the cells of one element of an array
abbrev pub element_types : ClassTable → ObjectKind → List Ty
element_types t Ints = IntHigh ∷ IntLow ∷ []
element_types t (References c) = Class (class_in_types t c) ∷ []
element_types t _ = Short ∷ []

-- the types of the cells of an object that has so many: of an instance those of its class, of an array those of its elements
abbrev pub cell_types : ClassTable → ObjectKind → ℕ → List Ty
cell_types t (Instance c) n = cells_of t c
cell_types t Booleans n = repeated n (element_types t Booleans)
cell_types t Bytes n = repeated n (element_types t Bytes)
cell_types t Shorts n = repeated n (element_types t Shorts)
cell_types t Ints n = repeated (n / 2) (element_types t Ints)
cell_types t (References c) n = repeated n (element_types t (References c))

-- something was stored in the cell
abbrev pub HasContent : Cell → Type 0
HasContent cells.Empty = ⊥
HasContent _ = ⊤

-- the cells have these types, one each, and all of them are filled
abbrev pub CellsHave : ClassTable → List ObjectKind → List Cell → List Ty → Type 0
CellsHave t ks [] [] = Unit {0}
CellsHave t ks (c ∷ cs) (ty ∷ types) = HasType t ks c ty × HasContent c × CellsHave t ks cs types
CellsHave t ks _ _ = ⊥

abbrev pub IsTypedObject : ClassTable → List ObjectKind → Object Cell → Type 0
IsTypedObject t ks o = CellsHave t ks o.cells (cell_types t o.kind (length o.cells))

-- every object has cells of its types, given what all objects are
abbrev pub IsTypedHeap : ClassTable → State Cell → Type 0
IsTypedHeap t s = All (IsTypedObject t (kinds s)) s.heap

-- the type that a cell of the object of a handle has in a typed heap
abbrev pub cell_type_at : ClassTable → State Cell → ℕ → ℕ → Option Ty
cell_type_at t s h i = option_and_then (λ o. slice_get (cell_types t o.kind (length o.cells)) i) (object_at s h)

-- a cell that is read from a typed heap is there, is filled, and has the type of its place
abbrev pub TypedReads : ClassTable → Type 0
TypedReads t =
    (s : State Cell) (h i : ℕ) (ty : Ty)
    → IsTypedHeap t s → cell_type_at t s h i ≡ Some ty
    → IsSomeAnd (slice_get (object_cells s h) i) (λ c. HasType t (kinds s) c ty × HasContent c)

-- a typed heap stays typed where a filled cell of the type of its place is written
abbrev pub TypedWrites : ClassTable → Type 0
TypedWrites t =
    (s : State Cell) (h i : ℕ) (ty : Ty) (c : Cell)
    → IsTypedHeap t s → cell_type_at t s h i ≡ Some ty → HasType t (kinds s) c ty → HasContent c
    → IsTypedHeap t (with_object_cell s h i c)
