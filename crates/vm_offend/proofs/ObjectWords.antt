-- An object and its cells in the words of a heap.
use Rattle.std.proofs.Common.{◌≡◌, ℕ, ◌+◌, ◌-◌, ◌*◌, ◌<◌, ◌≤◌, List, length, drop, get_or, refl, ◌∙◌, ap, subst, arith, length-drop}
use Rattle.std.specs.Prelude.{Some, IsSome, IsTrue, option_map}
use Rattle.vm_store.specs.declared.cell.ObjectHeader.{ObjectHeader}
use Rattle.vm_store.specs.Kind.{kind_of_handle}
use Rattle.vm_store.specs.Objects.{element_count, has_room, kinds, object_at, object_cells}
use Rattle.vm_store.proofs.Handles.{IsHandle, is_handle, kind_is, elements_are, cell_handle, cell_place, cell_read}
use Rattle.vm_store.proofs.Rooms.{HasRoom, room_for}
use Rattle.jc_base.specs.World.{Linked}
use Rattle.vm_offend.specs.declared.words.Counts.{Counts}
use Rattle.vm_offend.specs.Words.{AreLaid, AreObjectsLaid, header_at, headers_in, objects_state}
use Rattle.vm_offend.proofs.WordHeaps.{length-headers_in, header-read}

pub objects-laid : (w : Linked) (ram heap : List ℕ) (counts : Counts) → AreLaid w ram heap counts → AreObjectsLaid heap counts
objects-laid w ram heap counts h =
    record { heap_length = h.heap_length; some_objects = h.some_objects; some_cells = h.some_cells; laid = h.laid }

module _ (heap : List ℕ) (counts : Counts) (known : AreObjectsLaid heap counts) where
  pub cells-enough : counts.cells ≤ length (drop 12288 heap)
  cells-enough = omega (arith, known.heap_length, known.some_cells, length-drop 12288 heap)

  pub room-there : (more : ℕ) → IsTrue (has_room (objects_state heap counts) more) → HasRoom counts.objects counts.cells more
  room-there more h =
      subst (λ n. HasRoom n counts.cells more) (length-headers_in heap counts.objects)
      (room_for (objects_state heap counts) (drop 12288 heap) (headers_in heap counts.objects) counts.cells refl known.laid cells-enough more h)

  within : (handle : ℕ) → IsHandle (headers_in heap counts.objects) handle → handle - 1 < counts.objects
  within handle h = omega (arith, h.within, length-headers_in heap counts.objects)

  header-there : (handle : ℕ) → IsHandle (headers_in heap counts.objects) handle
      → get_or (headers_in heap counts.objects) (handle - 1) (header_at heap (handle - 1)) ≡ header_at heap (handle - 1)
  header-there handle h = header-read heap counts.objects (handle - 1) (header_at heap (handle - 1)) (within handle h)

  module _ (handle : ℕ) (there : IsSome (object_at (objects_state heap counts) handle)) where
    numbered : IsHandle (headers_in heap counts.objects) handle
    numbered =
        is_handle (objects_state heap counts) (drop 12288 heap) (headers_in heap counts.objects) counts.cells refl known.laid cells-enough
        (header_at heap (handle - 1)) handle there

    pub header-inside : 3 * (handle - 1) + 2 < length heap
    header-inside = omega (arith, within handle numbered, known.some_objects, known.heap_length)

    pub kind-there : kind_of_handle (kinds (objects_state heap counts)) handle ≡ Some (header_at heap (handle - 1)).kind
    kind-there =
        kind_is (objects_state heap counts) (drop 12288 heap) (headers_in heap counts.objects) counts.cells refl known.laid cells-enough
        (header_at heap (handle - 1)) handle numbered
        ∙ ap (λ (x : ObjectHeader). Some x.kind) (header-there handle numbered)

    pub elements-there : option_map element_count (object_at (objects_state heap counts) handle) ≡ Some (header_at heap (handle - 1)).elements
    elements-there =
        elements_are (objects_state heap counts) (drop 12288 heap) (headers_in heap counts.objects) counts.cells refl known.laid cells-enough
        (header_at heap (handle - 1)) handle numbered
        ∙ ap (λ (x : ObjectHeader). Some x.elements) (header-there handle numbered)

  module _ (handle i : ℕ) (there : i < length (object_cells (objects_state heap counts) handle)) where
    pub of-cell : IsHandle (headers_in heap counts.objects) handle
    of-cell =
        cell_handle (objects_state heap counts) (drop 12288 heap) (headers_in heap counts.objects) counts.cells refl known.laid cells-enough
        (header_at heap (handle - 1)) handle i there

    pub cell-header-inside : 3 * (handle - 1) + 2 < length heap
    cell-header-inside = omega (arith, within handle of-cell, known.some_objects, known.heap_length)

    pub cell-header : get_or (headers_in heap counts.objects) (handle - 1) (header_at heap (handle - 1)) ≡ header_at heap (handle - 1)
    cell-header = header-there handle of-cell

    pub cell-inside : (header_at heap (handle - 1)).start + i < counts.cells
    cell-inside =
        subst (λ (x : ObjectHeader). x.start + i < counts.cells) cell-header
        (cell_place (objects_state heap counts) (drop 12288 heap) (headers_in heap counts.objects) counts.cells refl known.laid cells-enough
        (header_at heap (handle - 1)) handle i there)

    pub cell-there : get_or (object_cells (objects_state heap counts) handle) i 0
        ≡ get_or (drop 12288 heap) ((header_at heap (handle - 1)).start + i) 0
    cell-there =
        cell_read (objects_state heap counts) (drop 12288 heap) (headers_in heap counts.objects) counts.cells refl known.laid cells-enough
        (header_at heap (handle - 1)) handle i there 0
        ∙ ap (λ (x : ObjectHeader). get_or (drop 12288 heap) (x.start + i) 0) cell-header
