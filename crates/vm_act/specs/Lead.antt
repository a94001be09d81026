-- What is left to do once a store has done what an operation says: the act that a lead tells in the state after.
use Rattle.std.specs.Prelude.{◌≡◌, ℕ, ◌+◌, ◌*◌, ◌<◌, ◌≤◌, List, [], ◌∷◌, length, Option, Some, None, Result}
use Rattle.std.specs.Prelude.{Ok, Err, IsSome, ⊤}
use Rattle.jc_base.specs.declared.ty.Ty.{Ty}
use Rattle.jc_base.specs.declared.ty.Ty.TheVariants.{IntHigh}
use Rattle.jc_base.specs.Class.{IsClass}
use Rattle.jc_base.specs.Cell.{width}
use Rattle.jc_base.specs.World.{Linked}
use Rattle.vm_store.specs.declared.cell.ObjectKind.{ObjectKind}
use Rattle.vm_store.specs.declared.cell.ObjectKind.TheVariants.{Instance}
use Rattle.vm_store.specs.Kind.{IsArrayKind, IsNumbered}
use Rattle.vm_store.specs.Cells.{Cells}
use Rattle.vm_store.specs.State.{State, IsRunning, top, other_frames, nth, register_count}
use Rattle.vm_store.specs.Objects.{object_at, object_cells, new_instance_cells, array_cells}
use Rattle.vm_step.specs.Instance.{IsRecorded}
use Rattle.vm_step.specs.declared.ending.Value.{Value}
use Rattle.vm_step.specs.declared.ending.Value.TheVariants as values
use Rattle.vm_step.specs.declared.ending.Exception.{Exception}
use Rattle.vm_step.specs.Act.{Act, goes, jumps, makes, calls, gives, raises, throws, lacks}
use Rattle.vm_step.specs.Fields.{holder_width, with_static_write, with_field_write, with_element}
use Rattle.vm_act.specs.declared.acting.Lead.{Lead}
use Rattle.vm_act.specs.declared.acting.Lead.TheVariants as leads
use Rattle.vm_act.specs.declared.acting.Put.{Put}
use Rattle.vm_act.specs.declared.acting.Put.TheVariants as puts

-- ---- writes

abbrev pub with_put : {A : Type 0} → Cells A → Put → State A → State A
with_put k (puts.Static f) s = with_static_write k f s
with_put k (puts.Field handle f holder) s = with_field_write k f holder handle s
with_put k (puts.Element handle element kind) s = with_element k kind handle element s

-- cells up to a number are there to be written, and so many are on the stack; an element is told by a short
pub record HasPlace (end there gone depth : ℕ) : Type 0 where
  pub place : end ≤ there
  pub cells : gone ≤ depth

abbrev pub PutStands : {A : Type 0} → State A → Put → Type 0
PutStands s (puts.Static f) = HasPlace (f.slot + width f.kind) (length s.statics) (width f.kind) (length (top s).stack)
PutStands s (puts.Field handle f holder) =
    HasPlace (f.cell + width f.kind) (length (object_cells s handle)) (width f.kind + holder_width holder) (length (top s).stack)
PutStands s (puts.Element handle element kind) =
    HasPlace (element * width kind + width kind) (length (object_cells s handle)) (width kind + 2) (length (top s).stack)
    × (element < 32768)

-- ---- values

-- how many cells a value takes on a stack
abbrev pub value_width : Value → ℕ
value_width values.Void = 0
value_width (values.Int n) = 2
value_width _ = 1

-- how many a result takes
abbrev pub result_width : Option Ty → ℕ
result_width None = 0
result_width (Some IntHigh) = 2
result_width (Some ty) = 1

-- the cells of a value on top of a stack, in the order in which they were pushed
abbrev pub value_cells : {A : Type 0} → Cells A → Value → List A → List A
value_cells k values.Void stack = []
value_cells k (values.Int n) stack = nth k stack 1 ∷ nth k stack 0 ∷ []
value_cells k _ stack = nth k stack 0 ∷ []

-- ---- leads

-- the act that a lead tells, where the store has this state
abbrev pub told : {A : Type 0} → Cells A → Linked → State A → Lead → Act A
told k w s leads.Goes = goes s
told k w s (leads.Jumps to) = jumps to s
told k w s (leads.Puts put) = goes (with_put k put s)
told k w s (leads.MakesInstance class place) = makes (Instance class) (new_instance_cells k w.classes class) (λ h. k.fresh h place) s
told k w s (leads.MakesArray kind count) = makes kind (array_cells k kind count) k.reference s
told k w s (leads.Calls method count) = calls method count s
told k w s (leads.Gives value) = gives value (value_cells k value (top s).stack)
told k w s (leads.Raises exception) = raises exception
told k w s (leads.Throws handle) = throws handle
told k w s (leads.Lacks class) = lacks class

-- on, unless an exception is thrown
abbrev pub lead_unless : Option Exception → Lead
lead_unless None = leads.Goes
lead_unless (Some exception) = leads.Raises exception

abbrev pub goes_unless : {A : Type 0} → Option Exception → State A → Act A
goes_unless None s = goes s
goes_unless (Some exception) s = raises exception

-- a value is written where it is told, unless an exception is thrown
abbrev pub put_or : {A : Type 0} → Cells A → State A → Result Put Exception → Act A
put_or k s (Ok put) = goes (with_put k put s)
put_or k s (Err exception) = raises exception

abbrev pub lead_put : Result Put Exception → Lead
lead_put (Ok put) = leads.Puts put
lead_put (Err exception) = leads.Raises exception

pub record SameMemory {A : Type 0} (before after : State A) : Type 0 where
  pub heap : after.heap ≡ before.heap
  pub statics : after.statics ≡ before.statics

-- where something is left to be written, or an act tells no state, the store has the state from before; where the run goes on to the
-- instruction after, the objects and static fields from before
abbrev pub Stays : {A : Type 0} → Lead → State A → State A → Type 0
Stays leads.Goes before after = SameMemory before after
Stays (leads.Puts put) before after = after ≡ before
Stays (leads.Gives value) before after = after ≡ before
Stays (leads.Raises exception) before after = after ≡ before
Stays (leads.Throws handle) before after = after ≡ before
Stays (leads.Lacks class) before after = after ≡ before
Stays _ before after = ⊤

-- the frame on top is of the same method at the same place, over the same frames
pub record FramesStay {A : Type 0} (before after : State A) : Type 0 where
  pub running : IsRunning after
  pub method : (top after).method ≡ (top before).method
  pub place : (top after).place ≡ (top before).place
  pub others : other_frames after.frames ≡ other_frames before.frames

-- a class of which an instance is made, with room for its reference
pub record InstanceStands {A : Type 0} (room : ℕ) (w : Linked) (s : State A) (class : ℕ) : Type 0 where
  pub class_is : IsClass w.classes class
  pub room_left : length (top s).stack < room

-- a kind of arrays, of which the class or interface of the elements has a record, with room for a reference
pub record ArrayStands {A : Type 0} (room : ℕ) (w : Linked) (s : State A) (kind : ObjectKind) : Type 0 where
  pub array : IsArrayKind kind
  pub numbered : IsNumbered kind
  pub recorded : IsRecorded w.classes kind
  pub room_left : length (top s).stack < room

-- a method of the world that has registers for so many cells
pub record TakesCells (w : Linked) (method count : ℕ) : Type 0 where
  pub known : method < length w.methods
  pub registers : count ≤ register_count w.methods method

pub record CallStands {A : Type 0} (w : Linked) (s : State A) (method count : ℕ) : Type 0 where
  pub takes : TakesCells w method count
  pub cells : count ≤ length (top s).stack

-- what the lead speaks of is there, and room for what comes on the stack
abbrev pub LeadStands : {A : Type 0} → ℕ → Linked → State A → Lead → Type 0
LeadStands room w s (leads.Puts put) = PutStands s put
LeadStands room w s (leads.MakesInstance class place) = InstanceStands room w s class
LeadStands room w s (leads.MakesArray kind count) = ArrayStands room w s kind
LeadStands room w s (leads.Calls method count) = CallStands w s method count
LeadStands room w s (leads.Gives value) = value_width value ≤ length (top s).stack
LeadStands room w s (leads.Throws handle) = IsSome (object_at s handle)
LeadStands room w s _ = ⊤
