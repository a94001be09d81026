-- Worked cases of the tests before each kind of operation: a register out of range, too few cells, a cell that is not as wanted, and none.
-- Class 0 is object, class 1 throwable; method 0 takes a short and an int after its receiver.
use Rattle.std.specs.Prelude.{◌≡◌, ℕ, pos, false, List, [], ◌∷◌, map, Option, Some, None}
use Rattle.std.proofs.Common.{refl}
use Rattle.jc_base.specs.declared.ty.Ty.TheVariants.{Short, IntHigh, IntLow, Class}
use Rattle.jc_base.specs.declared.ty.Kind.TheVariants as fields
use Rattle.jc_base.specs.declared.record.ClassRec.{ClassRec}
use Rattle.jc_base.specs.declared.record.MethodRec.{MethodRec}
use Rattle.jc_base.specs.Class.{parent_of, chain, chain_over}
use Rattle.jc_base.specs.Order.{is_on_chain, is_below}
use Rattle.jc_base.specs.World.{Linked}
use Rattle.jc_ops.specs.declared.operation.Want.TheVariants.{Value}
use Rattle.jc_ops.specs.declared.operation.Sort.TheVariants as sorts
use Rattle.jc_ops.specs.declared.operation.Width.TheVariants as widths
use Rattle.jc_ops.specs.declared.operation.Move.TheVariants as moves
use Rattle.jc_ops.specs.declared.operation.Operator.TheVariants as operators
use Rattle.jc_ops.specs.declared.operation.Arithmetic.TheVariants as arithmetic
use Rattle.jc_ops.specs.declared.operation.Sameness.TheVariants as sameness
use Rattle.jc_ops.specs.declared.operation.Branch.TheVariants as branches
use Rattle.jc_ops.specs.declared.operation.Holder.TheVariants as holders
use Rattle.jc_ops.specs.declared.operation.Choice.TheVariants as choices
use Rattle.jc_ops.specs.declared.operation.TypeTest.TheVariants as tests
use Rattle.jc_ops.specs.declared.operation.Operation.{Operation}
use Rattle.jc_ops.specs.declared.operation.Operation.TheVariants as ops
use Rattle.vm_store.specs.declared.cell.Cell.{Cell}
use Rattle.vm_store.specs.declared.cell.Cell.TheVariants as cells
use Rattle.vm_store.specs.declared.cell.ObjectKind.{ObjectKind}
use Rattle.vm_store.specs.declared.cell.ObjectKind.TheVariants.{Instance, Booleans, Shorts, References}
use Rattle.vm_store.specs.Cells.{tagged}
use Rattle.vm_store.specs.State.{State, Object}
use Rattle.vm_step.specs.declared.ending.Fault.{Fault}
use Rattle.vm_step.specs.declared.ending.Fault.TheVariants.{TypeFault, StackFault, LocalFault}
use Rattle.vm_step.specs.Tests.{fault_before}

abbrev class : Option ℕ → ClassRec
class parent =
    record { «package» = 0; interface = false; parent = parent; cells = 0; own = []; implements = []; public = []; visible = [] }

abbrev method : MethodRec
method =
    record {
      «package» = 0;
      class = 1;
      token = 0;
      class_no = 0;
      method_no = 0;
      is_static = false;
      is_init = false;
      is_abstract = false;
      sig = record { args = Short ∷ IntHigh ∷ IntLow ∷ []; result = None };
      nargs = 4;
      max_locals = 0;
      max_stack = 4;
      code_at = 0;
      code_len = 1;
      handlers = [];
    }

abbrev world : Linked
world =
    record {
      infos = [];
      pools = [];
      classes = record { records = class None ∷ class (Some 0) ∷ []; roles = 0 ∷ 1 ∷ [] };
      methods = method ∷ [];
      statics = [];
      arrays = [];
      indexes = None ∷ [];
    }

-- objects 1 to 4: an instance of object, one of throwable, and two arrays
abbrev made : ObjectKind → Object Cell
made kind = record { kind = kind; cells = [] }

abbrev at : List Cell → List Cell → State Cell
at registers stack =
    record {
      frames = record { method = 0; place = 0; registers = registers; stack = stack } ∷ [];
      heap = made (Instance 0) ∷ made (Instance 1) ∷ made Booleans ∷ made Shorts ∷ [];
      statics = [];
    }

abbrev faults : Operation → List (State Cell) → List (Option Fault)
faults op states = map (fault_before tagged world op) states

abbrev one : Cell
one = cells.Short (pos 1)

-- ---- registers and moves

-- an empty register is read as of any type
loads : faults (ops.Load sorts.Short 0)
    (at [] [] ∷ at (cells.Ref 0 ∷ []) [] ∷ at (one ∷ []) [] ∷ at (cells.Empty ∷ []) [] ∷ [])
    ≡ Some LocalFault ∷ Some TypeFault ∷ None ∷ None ∷ []
unfolding is_below is_on_chain parent_of chain chain_over
loads = refl

-- the low half is on top; the register is told before the stack, and that before the types
stores :
    faults (ops.Store sorts.Int 0)
    (at (one ∷ []) [] ∷ at (one ∷ one ∷ []) (one ∷ []) ∷ at (one ∷ one ∷ []) (cells.High 0 ∷ cells.Low 1 ∷ [])
    ∷ at (one ∷ one ∷ []) (cells.Low 1 ∷ cells.High 0 ∷ []) ∷ [])
    ≡ Some LocalFault ∷ Some StackFault ∷ Some TypeFault ∷ None ∷ []
unfolding is_below is_on_chain parent_of chain chain_over
stores = refl

increments :
    faults (ops.Increment widths.Short 1 (pos 1))
    (at (one ∷ []) [] ∷ at (one ∷ cells.Ref 0 ∷ []) [] ∷ at (one ∷ one ∷ []) [] ∷ [])
    ≡ Some LocalFault ∷ Some TypeFault ∷ None ∷ []
unfolding is_below is_on_chain parent_of chain chain_over
increments = refl

-- a cut through an int
copies :
    faults (ops.Move (moves.CopyUnder 1 2))
    (at [] (one ∷ []) ∷ at [] (cells.Low 1 ∷ cells.High 0 ∷ []) ∷ at [] (one ∷ one ∷ []) ∷ [])
    ≡ Some StackFault ∷ Some TypeFault ∷ None ∷ []
unfolding is_below is_on_chain parent_of chain chain_over
copies = refl

sums :
    faults (ops.Arithmetic (arithmetic.Binary operators.Add widths.Short)) (at [] (one ∷ []) ∷ at [] (one ∷ cells.Ref 0 ∷ [])
    ∷ at [] (one ∷ one ∷ []) ∷ [])
    ≡ Some StackFault ∷ Some TypeFault ∷ None ∷ []
unfolding is_below is_on_chain parent_of chain chain_over
sums = refl

-- ---- arrays, fields and objects

-- bytes and booleans are read alike, and null is an array; a handle of no object is none
reads :
    faults (ops.ArrayRead fields.Byte)
    (at [] (one ∷ []) ∷ at [] (one ∷ cells.Ref 4 ∷ []) ∷ at [] (one ∷ cells.Ref 3 ∷ []) ∷ at [] (one ∷ cells.Ref 0 ∷ [])
    ∷ at [] (one ∷ cells.Ref 5 ∷ []) ∷ [])
    ≡ Some StackFault ∷ Some TypeFault ∷ None ∷ None ∷ Some TypeFault ∷ []
unfolding is_below is_on_chain parent_of chain chain_over
reads = refl

writes :
    faults (ops.ArrayWrite fields.Short)
    (at [] (one ∷ one ∷ []) ∷ at [] (one ∷ one ∷ cells.Ref 3 ∷ []) ∷ at [] (one ∷ one ∷ cells.Ref 4 ∷ []) ∷ [])
    ≡ Some StackFault ∷ Some TypeFault ∷ None ∷ []
unfolding is_below is_on_chain parent_of chain chain_over
writes = refl

lengths :
    faults ops.ArrayLength
    (at [] [] ∷ at [] (cells.Ref 1 ∷ []) ∷ at [] (cells.Ref 4 ∷ []) ∷ [])
    ≡ Some StackFault ∷ Some TypeFault ∷ None ∷ []
unfolding is_below is_on_chain parent_of chain chain_over
lengths = refl

static_writes :
    faults (ops.StaticWrite (record { slot = 0; kind = fields.Int; ty = IntHigh })) (at [] (cells.Low 1 ∷ [])
    ∷ at [] (one ∷ one ∷ []) ∷ at [] (cells.Low 1 ∷ cells.High 0 ∷ []) ∷ [])
    ≡ Some StackFault ∷ Some TypeFault ∷ None ∷ []
unfolding is_below is_on_chain parent_of chain chain_over
static_writes = refl

-- an object on which no constructor was called has no fields yet
fields_of_this :
    faults (ops.FieldRead (record { class = 1; cell = 0; kind = fields.Short; ty = Short }) holders.This)
    (at [] [] ∷ at (cells.Ref 1 ∷ []) [] ∷ at (cells.Fresh 2 7 ∷ []) [] ∷ at (cells.Ref 2 ∷ []) [] ∷ [])
    ≡ Some LocalFault ∷ Some TypeFault ∷ Some TypeFault ∷ None ∷ []
unfolding is_below is_on_chain parent_of chain chain_over
fields_of_this = refl

field_writes :
    faults (ops.FieldWrite (record { class = 1; cell = 0; kind = fields.Short; ty = Short }) holders.Stack)
    (at [] (one ∷ []) ∷ at [] (cells.Ref 2 ∷ one ∷ []) ∷ at [] (one ∷ cells.Ref 2 ∷ []) ∷ [])
    ≡ Some StackFault ∷ Some TypeFault ∷ None ∷ []
unfolding is_below is_on_chain parent_of chain chain_over
field_writes = refl

-- ---- branches and calls

branches_on_references :
    faults (ops.Branch (branches.References sameness.Equal)) (at [] (cells.Ref 0 ∷ []) ∷ at [] (one ∷ cells.Ref 0 ∷ [])
    ∷ at [] (cells.Ref 3 ∷ cells.Ref 1 ∷ []) ∷ [])
    ≡ Some StackFault ∷ Some TypeFault ∷ None ∷ []
unfolding is_below is_on_chain parent_of chain chain_over
branches_on_references = refl

switches :
    faults (ops.Switch widths.Int)
    (at [] (cells.Low 1 ∷ []) ∷ at [] (one ∷ one ∷ []) ∷ at [] (cells.Low 1 ∷ cells.High 0 ∷ []) ∷ [])
    ≡ Some StackFault ∷ Some TypeFault ∷ None ∷ []
unfolding is_below is_on_chain parent_of chain chain_over
switches = refl

-- the last argument is on top, and the receiver under the first
virtual_calls :
    faults (ops.Call (record { method = 0; receiver = Some (Value (Class 1)); choice = choices.Virtual 1 0 }))
    (at [] (cells.Low 1 ∷ cells.High 0 ∷ one ∷ []) ∷ at [] (cells.Low 1 ∷ cells.High 0 ∷ one ∷ cells.Ref 1 ∷ [])
    ∷ at [] (cells.Low 1 ∷ cells.High 0 ∷ one ∷ cells.Ref 2 ∷ []) ∷ [])
    ≡ Some StackFault ∷ Some TypeFault ∷ None ∷ []
unfolding is_below is_on_chain parent_of chain chain_over
virtual_calls = refl

throws :
    faults ops.Throw
    (at [] [] ∷ at [] (cells.Ref 1 ∷ []) ∷ at [] (cells.Ref 2 ∷ []) ∷ [])
    ≡ Some StackFault ∷ Some TypeFault ∷ None ∷ []
unfolding is_below is_on_chain parent_of chain chain_over
throws = refl

casts :
    faults (ops.TypeTest tests.Cast (Class 1))
    (at [] [] ∷ at [] (one ∷ []) ∷ at [] (cells.Ref 3 ∷ []) ∷ [])
    ≡ Some StackFault ∷ Some TypeFault ∷ None ∷ []
unfolding is_below is_on_chain parent_of chain chain_over
casts = refl

returns :
    faults (ops.Return (Some (Class 1)))
    (at [] [] ∷ at [] (cells.Ref 1 ∷ []) ∷ at [] (cells.Ref 2 ∷ []) ∷ [])
    ≡ Some StackFault ∷ Some TypeFault ∷ None ∷ []
unfolding is_below is_on_chain parent_of chain chain_over
returns = refl

new_arrays :
    faults (ops.NewArray Short)
    (at [] [] ∷ at [] (cells.Ref 0 ∷ []) ∷ at [] (one ∷ []) ∷ [])
    ≡ Some StackFault ∷ Some TypeFault ∷ None ∷ []
unfolding is_below is_on_chain parent_of chain chain_over
new_arrays = refl
