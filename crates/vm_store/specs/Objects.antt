-- Objects, their making and their cells (JCVM 2.2, sections 2.2, 3.1 and 3.6; chapter 7, `new`, `newarray` and `anewarray`).
use Rattle.std.specs.Prelude.{ℕ, zero, suc, ◌+◌, ◌/◌, Bool, ◌&&◌, nat_lt, nat_le, List, [], ◌∷◌, ◌++◌, length, map}
use Rattle.std.specs.Prelude.{slice_set, slice_get, sum_by, Option, Some, None}
use Rattle.jc_base.specs.Class.{ClassTable}
use Rattle.jc_base.specs.Dispatch.{cells_of}
use Rattle.vm_store.specs.declared.cell.ObjectKind.{ObjectKind}
use Rattle.vm_store.specs.Kind.{cell_kind, element_cells, element_width}
use Rattle.vm_store.specs.Cells.{Cells, zero_cell}
use Rattle.vm_store.specs.State.{Object, State}

-- what each object is
abbrev pub kinds : {A : Type 0} → State A → List ObjectKind
kinds s = map (λ o. o.kind) s.heap

-- the object of a handle: handles count from 1, and 0 is null
abbrev pub object_at : {A : Type 0} → State A → ℕ → Option (Object A)
object_at s zero = None
object_at s (suc h) = slice_get s.heap h

abbrev pub cells_in : {A : Type 0} → Option (Object A) → List A
cells_in None = []
cells_in (Some o) = o.cells

-- the cells of the object of a handle
abbrev pub object_cells : {A : Type 0} → State A → ℕ → List A
object_cells s h = cells_in (object_at s h)

-- the elements of an array, or the cells of an instance, are so many
abbrev pub element_count : {A : Type 0} → Object A → ℕ
element_count o = length o.cells / element_width o.kind

-- ---- limits

abbrev pub object_limit : ℕ
object_limit = 4096

abbrev pub cell_limit : ℕ
cell_limit = 32768

-- how many cells all objects have
abbrev pub heap_cells : {A : Type 0} → State A → ℕ
heap_cells s = sum_by (λ o. length o.cells) s.heap

-- there is room for one more object of so many cells
abbrev pub has_room : {A : Type 0} → State A → ℕ → Bool
has_room s cells = nat_lt (length s.heap) object_limit && nat_le (heap_cells s + cells) cell_limit

-- ---- new objects

-- the cells of a new instance of a class: zero or null, by the types of its cells
abbrev pub new_instance_cells : {A : Type 0} → Cells A → ClassTable → ℕ → List A
new_instance_cells k t class = map (λ ty. zero_cell k (cell_kind ty)) (cells_of t class)

-- so many copies of a list, one after another
abbrev pub repeated : {A : Type 0} → ℕ → List A → List A
repeated zero xs = []
repeated (suc n) xs = xs ++ repeated n xs

-- the cells of a new array of so many elements
abbrev pub array_cells : {A : Type 0} → Cells A → ObjectKind → ℕ → List A
array_cells k kind count = repeated count (map (zero_cell k) (element_cells kind))

-- the state with one more object
abbrev pub with_object : {A : Type 0} → State A → ObjectKind → List A → State A
with_object s kind cells = record s { heap = s.heap ++ record { kind = kind; cells = cells } ∷ [] }

-- ---- writes

-- the objects, of which the one at a number has another cell at a place
abbrev pub write_object : {A : Type 0} → List (Object A) → ℕ → ℕ → A → List (Object A)
write_object [] h i cell = []
write_object (o ∷ os) zero i cell = record o { cells = slice_set o.cells i cell } ∷ os
write_object (o ∷ os) (suc h) i cell = o ∷ write_object os h i cell

-- the state in which the object of a handle has another cell at a place
abbrev pub with_object_cell : {A : Type 0} → State A → ℕ → ℕ → A → State A
with_object_cell s zero i cell = s
with_object_cell s (suc h) i cell = record s { heap = write_object s.heap h i cell }

-- the state in which a static field has another cell at a slot
abbrev pub with_static_cell : {A : Type 0} → State A → ℕ → A → State A
with_static_cell s slot cell = record s { statics = slice_set s.statics slot cell }
