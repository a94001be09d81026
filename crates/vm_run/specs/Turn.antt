-- What one turn of a machine leaves: an ending, or none where it goes on; and what it rests on.
use Rattle.std.specs.Prelude.{◌<◌, length, All, Option, Some, None, ⊤}
use Rattle.jc_base.specs.Class.{ClassTable, IsClass}
use Rattle.jc_base.specs.World.{Linked}
use Rattle.vm_store.specs.declared.cell.ObjectKind.{ObjectKind}
use Rattle.vm_store.specs.declared.cell.ObjectKind.TheVariants.{Instance}
use Rattle.vm_store.specs.State.{State}
use Rattle.vm_step.specs.declared.ending.Ending.{Ending}
use Rattle.vm_step.specs.Raising.{Outcome, running, ended}

abbrev pub with_ending : {A : Type 0} → Option Ending → State A → Outcome A
with_ending None s = running s
with_ending (Some ending) s = ended ending s

-- the methods of the frames are methods of the world
pub record AreMethods {A : Type 0} (w : Linked) (s : State A) : Type 0 where
  pub known : All (λ f. f.method < length w.methods) s.frames

-- an instance is one of a class
abbrev pub IsOfClass : ClassTable → ObjectKind → Type 0
IsOfClass t (Instance class) = IsClass t class
IsOfClass t array = ⊤
