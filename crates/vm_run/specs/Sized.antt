-- What a state in which a run begins has of its world.
use Rattle.std.specs.Prelude.{◌≡◌, ◌<◌, ℕ, length, sum_by, All, ⊤}
use Rattle.jc_base.specs.Cell.{width}
use Rattle.jc_base.specs.World.{Linked}
use Rattle.vm_store.specs.declared.cell.ObjectKind.{ObjectKind}
use Rattle.vm_store.specs.declared.cell.ObjectKind.TheVariants.{Instance, References}
use Rattle.vm_store.specs.State.{State, top, register_count}

-- an array of booleans, bytes, shorts or ints
abbrev pub IsOfNumbers : ObjectKind → Type 0
IsOfNumbers (Instance class) = ⊥
IsOfNumbers (References class) = ⊥
IsOfNumbers kind = ⊤

-- the frame of the entry has its method's registers, all objects are arrays of numbers, and each static field has its cells
pub record HasEntrySizes {A : Type 0} (w : Linked) (entry : ℕ) (s : State A) : Type 0 where
  pub known : entry < length w.methods
  pub registers : length (top s).registers ≡ register_count w.methods entry
  pub objects : All (λ o. IsOfNumbers o.kind) s.heap
  pub statics : length s.statics ≡ sum_by (λ f. width f.kind) w.statics
