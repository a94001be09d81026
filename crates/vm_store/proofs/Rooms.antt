-- Whether one more object has room.
use Rattle.std.proofs.Common.{◌≡◌, ℕ, ◌+◌, ◌<◌, ◌≤◌, false, List, length, ◌∙◌, ap, arith}
use Rattle.std.specs.Prelude.{IsTrue, nat_le}
use Rattle.std.proofs.lemmas.Bool.{lt-ltb, le-ltb, ltb-true, leb-true, and_parts}
use Rattle.vm_store.specs.declared.cell.ObjectHeader.{ObjectHeader}
use Rattle.vm_store.specs.State.{State}
use Rattle.vm_store.specs.Objects.{has_room, heap_cells}
use Rattle.vm_store.specs.Layout.{objects_in, Follow}
use Rattle.vm_store.proofs.Heaps.{sum-objects}
use Rattle.std.proofs.lemmas.List.{length-map}

-- what room means
pub record HasRoom (objects cells more : ℕ) : Type 0 where
  pub one : objects < 4096
  pub all : cells + more ≤ 32768

pub room-means : {A : Type 0} (s : State A) (n : ℕ) → IsTrue (has_room s n) → HasRoom (length s.heap) (heap_cells s) n
room-means s n h = grind (arith, and_parts, length, ltb-true, leb-true)

module _ {A : Type 0} (s : State A) (xs : List A) (hs : List ObjectHeader) (end : ℕ) (heap : s.heap ≡ objects_in xs hs) (follow : Follow 0 hs end)
    (enough : end ≤ length xs) where
  pub cells_counted : heap_cells s ≡ end
  cells_counted = grind (arith, sum-objects)

  pub objects_counted : length s.heap ≡ length hs
  objects_counted = ap length heap ∙ length-map hs _

  pub room_then : (n : ℕ) → length hs < 4096 → nat_le (end + n) 32768 ≡ has_room s n
  room_then n few = grind (arith, length, lt-ltb, objects_counted, cells_counted)

  pub room_for : (n : ℕ) → IsTrue (has_room s n) → HasRoom (length hs) end n
  room_for n h = grind (arith, room-means, objects_counted, cells_counted)

  pub room_else : (n : ℕ) → 4096 ≤ length hs → false ≡ has_room s n
  room_else n many = grind (arith, length, le-ltb, objects_counted)
