-- What is left where a run ends (JCVM 2.2, sections 2.2.1, 3.5 and 3.7): no frame, and of the state before the last step the static
-- fields and the objects, with one object behind them where this step raised an exception.
use Rattle.std.specs.Prelude.{◌≡◌, ◌≢◌, ◌⊎◌, ◌<◌, ℕ, ◌+◌, List, [], ◌∷◌, ◌++◌, length, slice_index}
use Rattle.jc_base.specs.World.{Linked}
use Rattle.vm_store.specs.declared.cell.ObjectKind.TheVariants.{Instance}
use Rattle.vm_store.specs.Cells.{Cells}
use Rattle.vm_store.specs.State.{State, Object}
use Rattle.vm_store.specs.Objects.{new_instance_cells}
use Rattle.vm_step.specs.declared.ending.Ending.{Ending}
use Rattle.vm_step.specs.declared.ending.Ending.TheVariants.{Plain, Faulted}
use Rattle.vm_step.specs.declared.ending.Fault.TheVariants.{StackFault}
use Rattle.vm_step.specs.declared.ending.Plain.TheVariants.{Threw, Spent}
use Rattle.vm_step.specs.declared.ending.Exception.{Exception}
use Rattle.vm_step.specs.Act.{role_of}
use Rattle.vm_step.specs.Raising.{running, ended}
use Rattle.vm_step.specs.Step.{Steps}
use Rattle.vm_step.specs.Run.{Runs}

-- the class of an exception, and a new object of it
abbrev pub class_raised : Linked → Exception → ℕ
class_raised w exception = slice_index w.classes.roles (role_of exception)

abbrev pub object_raised : {A : Type 0} → Cells A → Linked → Exception → Object A
object_raised k w exception =
    record { kind = Instance (class_raised w exception); cells = new_instance_cells k w.classes (class_raised w exception) }

-- the last object is that of an exception: it was thrown and no method caught it, or one did whose operand stack has no room for it
pub record HasRaised {A : Type 0} (k : Cells A) (w : Linked) (s : State A) (ending : Ending) (heap : List (Object A)) : Type 0 where
  pub exception : Exception
  pub object : heap ≡ s.heap ++ object_raised k w exception ∷ []
  pub thrown : (ending ≡ Plain (Threw (class_raised w exception) (length s.heap + 1))) ⊎ (ending ≡ Faulted StackFault)

-- what a step from the state s that ends the run leaves; that its steps are used up is no ending of a run
pub record IsLeft {A : Type 0} (k : Cells A) (w : Linked) (s : State A) (ending : Ending) (z : State A) : Type 0 where
  pub no_frame : z.frames ≡ []
  pub statics : z.statics ≡ s.statics
  pub objects : (z.heap ≡ s.heap) ⊎ HasRaised k w s ending z.heap
  pub reached : ending ≢ Plain Spent

abbrev pub EndingsLeave : {A : Type 0} → Cells A → Linked → Type 0
EndingsLeave {A} k w = (s z : State A) (ending : Ending) → Steps k w s (ended ending z) → IsLeft k w s ending z

-- a run of fewer than n steps comes to a last state, whose step ends it
pub record ComesToEnd {A : Type 0} (k : Cells A) (w : Linked) (n : ℕ) (s : State A) (ending : Ending) (z : State A) : Type 0 where
  pub count : ℕ
  pub few : count < n
  pub last : State A
  pub runs : Runs k w count s (running last)
  pub step : Steps k w last (ended ending z)
  pub leaves : IsLeft k w last ending z

abbrev pub RunsLeave : {A : Type 0} → Cells A → Linked → Type 0
RunsLeave {A} k w = (n : ℕ) (s z : State A) (ending : Ending) → Runs k w n s (ended ending z) → ComesToEnd k w n s ending z
