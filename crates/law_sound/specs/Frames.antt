-- Frames whose cells have the types that a dataflow typing of their method holds for them (Leroy 2002, sections 2.2 and 2.3; JCVM 2.2,
-- section 3.5).
use Rattle.std.specs.Prelude.{◌≡◌, ℕ, List, [], ◌∷◌, ◌++◌, map, All, Option, Some, None, IsSomeAnd, Result, Ok, slice_get}
use Rattle.std.specs.Prelude.{⊤}
use Rattle.jc_base.specs.declared.ty.Ty.{Ty}
use Rattle.jc_base.specs.declared.record.MethodRec.{MethodRec}
use Rattle.jc_base.specs.Class.{ClassTable}
use Rattle.jc_base.specs.World.{Linked, code_of}
use Rattle.jc_decode.specs.declared.insn.Placed.{Placed}
use Rattle.jc_control.specs.Method.{method_with}
use Rattle.jc_control.specs.Control.{IsReached}
use Rattle.jc_ops.specs.declared.fault.RuleFault.{RuleFault}
use Rattle.jc_ops.specs.declared.operation.Operation.{Operation}
use Rattle.jc_ops.specs.declared.operation.Operation.TheVariants as ops
use Rattle.jc_ops.specs.Row.{row_at}
use Rattle.jc_ops.specs.Resolve.{resolved}
use Rattle.jc_rules.specs.Demand.{Frame as Types}
use Rattle.jc_rules.specs.Effect.{in_stack_order}
use Rattle.jc_rules.specs.Rule.{result_given, result_at}
use Rattle.jc_rules.specs.Flow.{CellsBelow, FrameBelow, At, FlowTyping}
use Rattle.vm_store.specs.declared.cell.Cell.{Cell}
use Rattle.vm_store.specs.declared.cell.Cell.TheVariants as cells
use Rattle.vm_store.specs.declared.cell.ObjectKind.{ObjectKind}
use Rattle.vm_store.specs.declared.cell.ObjectKind.TheVariants.{Instance}
use Rattle.vm_store.specs.Kind.{kind_of_handle}
use Rattle.vm_store.specs.Typing.{least_type}
use Rattle.vm_store.specs.State.{Frame}
use Rattle.vm_step.specs.Methods.{code_at, instruction_at}
use Rattle.vm_step.specs.Settled.{return_place}

-- the least types of cells, where an empty register is read as of the type `unset`
abbrev pub least_types : ClassTable → Ty → List ObjectKind → List Cell → List Ty
least_types t unset ks cs = map (least_type t unset ks) cs

abbrev pub types_of_frame : ClassTable → Ty → List ObjectKind → Frame Cell → Types
types_of_frame t unset ks f = record { regs = least_types t unset ks f.registers; stack = least_types t unset ks f.stack }

-- the types of the frame of a caller, once it has been given a result
abbrev pub types_with : ClassTable → Ty → List ObjectKind → Option Ty → Frame Cell → Types
types_with t unset ks result f =
    record { regs = least_types t unset ks f.registers; stack = in_stack_order (result_given result) ++ least_types t unset ks f.stack }

-- ---- objects on which no constructor was called

abbrev pub class_of_new : Result Operation RuleFault → Option ℕ
class_of_new (Ok (ops.New place class)) = Some class
class_of_new _ = None

abbrev pub class_made_by : Linked → MethodRec → Option Placed → Option ℕ
class_made_by w m None = None
class_made_by w m (Some i) = class_of_new (resolved w m i.place i.insn (row_at i.insn.op))

-- the class of which the `new` at a place of a method makes an object, where one stands there
abbrev pub class_made : Linked → MethodRec → ℕ → Option ℕ
class_made w m place = class_made_by w m (instruction_at (code_of w.infos m) place)

-- a cell that may lie on the operand stack of a method: something was stored in it, and an object on which no constructor was called is of
-- the class that the `new` at its place makes
abbrev pub IsStacked : Linked → MethodRec → List ObjectKind → Cell → Type 0
IsStacked w m ks cells.Empty = ⊥
IsStacked w m ks (cells.Fresh h place) = IsSomeAnd (class_made w m place) (λ c. kind_of_handle ks h ≡ Some (Instance c))
IsStacked w m ks _ = ⊤

-- ---- frames

-- dataflow typings of methods by their numbers: the type of the registers of a method that are unset, and its typing
pub record Typings : Type 0 where
  pub unset : ℕ → Ty
  pub frames : ℕ → ℕ → Option Types

-- where a frame stands: the record of its method, the instruction at its place, which control reaches, and that its method is typed as said
pub record Standing (w : Linked) (typings : Typings) (f : Frame Cell) : Type 0 where
  pub rec : MethodRec
  pub is_method : slice_get w.methods f.method ≡ Some rec
  pub instruction : Placed
  pub there : instruction_at (code_of w.infos rec) f.place ≡ Some instruction
  pub reached : IsReached (method_with w f.method rec) f.place
  pub typing : FlowTyping w (method_with w f.method rec) (typings.unset f.method) (typings.frames f.method)

-- the frame on top: the least types of its cells are below those of the typing before its instruction
pub record IsTypedFrame (w : Linked) (typings : Typings) (ks : List ObjectKind) (f : Frame Cell) : Type 0 where
  pub stands : Standing w typings f
  pub below : At (typings.frames f.method) f.place (FrameBelow w.classes (types_of_frame w.classes (typings.unset f.method) ks f))
  pub stacked : All (IsStacked w stands.rec ks) f.stack

-- the frame at the instruction after its own
abbrev pub at_next : Linked → Frame Cell → Frame Cell
at_next w f = record f { place = return_place (instruction_at (code_at w f.method) f.place) }

-- a frame whose method waits for the result of a call: its registers are typed at the call, for what may be thrown, and all of it is
-- after the call, once the result lies on the stack
pub record IsWaiting (w : Linked) (typings : Typings) (ks : List ObjectKind) (result : Option Ty) (f : Frame Cell) : Type 0 where
  pub stands : Standing w typings f
  pub regs : At (typings.frames f.method) f.place
      (λ g. CellsBelow w.classes (least_types w.classes (typings.unset f.method) ks f.registers) g.regs)
  pub next : Standing w typings (at_next w f)
  pub below : At (typings.frames f.method) (at_next w f).place
      (FrameBelow w.classes (types_with w.classes (typings.unset f.method) ks result f))
  pub stacked : All (IsStacked w next.rec ks) f.stack

-- the result of the method of a number
abbrev pub result_of : Linked → ℕ → Option Ty
result_of w method = result_at (slice_get w.methods method)

-- the frames under one whose method has a result, each of which waits for that of the one above
abbrev pub AreWaiting : Linked → Typings → List ObjectKind → Option Ty → List (Frame Cell) → Type 0
AreWaiting w typings ks result [] = ⊤
AreWaiting w typings ks result (f ∷ fs) = IsWaiting w typings ks result f × AreWaiting w typings ks (result_of w f.method) fs

abbrev pub AreTypedFrames : Linked → Typings → List ObjectKind → List (Frame Cell) → Type 0
AreTypedFrames w typings ks [] = ⊤
AreTypedFrames w typings ks (f ∷ fs) = IsTypedFrame w typings ks f × AreWaiting w typings ks (result_of w f.method) fs
