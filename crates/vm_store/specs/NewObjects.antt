-- New objects among typed ones.
use Rattle.std.specs.Prelude.{ℕ}
use Rattle.jc_base.specs.Class.{ClassTable, IsClass}
use Rattle.vm_store.specs.declared.cell.Cell.{Cell}
use Rattle.vm_store.specs.declared.cell.ObjectKind.{ObjectKind}
use Rattle.vm_store.specs.declared.cell.ObjectKind.TheVariants.{Instance}
use Rattle.vm_store.specs.Kind.{IsArrayKind}
use Rattle.vm_store.specs.Cells.{tagged}
use Rattle.vm_store.specs.State.{State}
use Rattle.vm_store.specs.Objects.{new_instance_cells, array_cells, with_object}
use Rattle.vm_store.specs.Laws.{IsTypedHeap}

-- a heap of typed objects stays one where an instance of a class is made
abbrev pub NewInstancesAreTyped : ClassTable → Type 0
NewInstancesAreTyped t =
    (s : State Cell) (c : ℕ)
    → IsTypedHeap t s → IsClass t c
    → IsTypedHeap t (with_object s (Instance c) (new_instance_cells tagged t c))

-- and where an array of any length is made
abbrev pub NewArraysAreTyped : ClassTable → Type 0
NewArraysAreTyped t =
    (s : State Cell) (kind : ObjectKind) (count : ℕ)
    → IsTypedHeap t s → IsArrayKind kind
    → IsTypedHeap t (with_object s kind (array_cells tagged kind count))
