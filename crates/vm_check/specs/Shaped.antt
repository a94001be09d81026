-- What every machine keeps of its states, whatever its code does: each frame is of a method of the world and has its registers, and each
-- object has the cells that its class or its elements ask for (JCVM 2.2, sections 3.5 and 3.6).
use Rattle.std.specs.Prelude.{◌≡◌, ℕ, ◌<◌, ◌≤◌, length, sum_by, All, ⊤}
use Rattle.jc_base.specs.Class.{ClassTable, IsClass}
use Rattle.jc_base.specs.Order.{IsKnown}
use Rattle.jc_base.specs.Cell.{width}
use Rattle.jc_base.specs.Dispatch.{cells_of}
use Rattle.jc_base.specs.World.{Linked}
use Rattle.vm_store.specs.declared.cell.ObjectKind.{ObjectKind}
use Rattle.vm_store.specs.declared.cell.ObjectKind.TheVariants.{Instance, References}
use Rattle.vm_store.specs.Cells.{Cells}
use Rattle.vm_store.specs.State.{Frame, State, Object, IsRunning, top, register_count}
use Rattle.vm_store.specs.Objects.{kinds}
use Rattle.vm_step.specs.Methods.{max_stack_of}

-- the frame of a method of the world: as many registers as it has, and no more cells than it may have
pub record IsShapedFrame {A : Type 0} (w : Linked) (f : Frame A) : Type 0 where
  pub known : f.method < length w.methods
  pub registers : length f.registers ≡ register_count w.methods f.method
  pub cells : length f.stack ≤ max_stack_of w f.method

-- an instance of a class, with its cells; an array of references of a class or interface of the world
abbrev pub IsShapedFor : ClassTable → ObjectKind → ℕ → Type 0
IsShapedFor t (Instance class) count = IsClass t class × (count ≡ length (cells_of t class))
IsShapedFor t (References class) count = class < length t.records
IsShapedFor t kind count = ⊤

abbrev pub IsShapedObject : {A : Type 0} → ClassTable → Object A → Type 0
IsShapedObject t o = IsShapedFor t o.kind (length o.cells)

pub record IsShaped {A : Type 0} (w : Linked) (s : State A) : Type 0 where
  pub frames : All (IsShapedFrame w) s.frames
  pub objects : All (IsShapedObject w.classes) s.heap
  pub statics : length s.statics ≡ sum_by (λ f. width f.kind) w.statics

-- each class number in the type of a cell names a class
pub record HasKnownTypes {A : Type 0} (k : Cells A) (t : ClassTable) (s : State A) : Type 0 where
  pub each : (c : A) → IsKnown t (k.type_of t (kinds s) c)

-- a state whose frame on top can be tested
pub record CanTest {A : Type 0} (k : Cells A) (w : Linked) (s : State A) : Type 0 where
  pub running : IsRunning s
  pub frame : IsShapedFrame w (top s)
  pub types : HasKnownTypes k w.classes s
