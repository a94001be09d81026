-- Worked cases of how a run begins, and of an exception that a method without an operand stack catches.
use Rattle.std.specs.Prelude.{◌≡◌, ℕ, pos, negsuc, true, false, List, [], ◌∷◌, replicate, Some, None}
use Rattle.std.proofs.Common.{refl}
use Rattle.jc_base.specs.declared.ty.Ty.{Ty}
use Rattle.jc_base.specs.declared.ty.Ty.TheVariants.{Short, IntHigh, IntLow, ArrByte, ArrInt}
use Rattle.jc_base.specs.declared.ty.Kind.TheVariants as fields
use Rattle.jc_base.specs.declared.record.ClassRec.{ClassRec}
use Rattle.jc_base.specs.declared.record.MethodRec.{MethodRec}
use Rattle.jc_base.specs.Class.{is_interface, parent_of, chain_over, chain}
use Rattle.jc_base.specs.Order.{is_on_chain}
use Rattle.jc_base.specs.World.{Linked}
use Rattle.vm_store.specs.declared.cell.Cell.{Cell}
use Rattle.vm_store.specs.declared.cell.Cell.TheVariants as cells
use Rattle.vm_store.specs.declared.cell.ObjectKind.TheVariants.{Instance, Bytes, Ints}
use Rattle.vm_store.specs.Cells.{tagged}
use Rattle.vm_store.specs.State.{State}
use Rattle.vm_step.specs.declared.ending.Fault.TheVariants.{StackFault}
use Rattle.vm_step.specs.declared.ending.Ending.TheVariants.{Faulted}
use Rattle.vm_step.specs.declared.ending.StartFault.TheVariants.{NoEntry, NotStatic, ArgCount, ArgKind}
use Rattle.vm_step.specs.Arguments.{number, null, bytes}
use Rattle.vm_step.specs.Raising.{ends, thrown}
use Rattle.vm_step.specs.Start.{start_fault, entry_state, first_without_room}

-- object, which is throwable too
abbrev only_class : ClassRec
only_class = record { «package» = 0; interface = false; parent = None; cells = 0; own = []; implements = []; public = []; visible = [] }

-- a static method of these argument words and this room on the stack, which catches all that its first instruction throws
abbrev method_of : List Ty → ℕ → MethodRec
method_of args max_stack =
    record {
      «package» = 0;
      class = 0;
      token = 0;
      class_no = 0;
      method_no = 0;
      is_static = true;
      is_init = false;
      is_abstract = false;
      sig = record { args = args; result = None };
      nargs = 3;
      max_locals = 1;
      max_stack = max_stack;
      code_at = 0;
      code_len = 1;
      handlers = record { start = 0; end = 1; entry = 0; index = 0; class = 0 } ∷ [];
    }

-- an array of ints with one element, and a static field of each of three kinds
abbrev world_of : MethodRec → Linked
world_of m =
    record {
      infos = (122 ∷ []) ∷ [];
      pools = [] ∷ [];
      classes = record { records = only_class ∷ []; roles = replicate 8 0 };
      methods = m ∷ [];
      statics =
          record { «package» = 0; offset = 0; kind = fields.Ref; ty = ArrInt; slot = 0; initial = 1 ∷ [] }
          ∷ record { «package» = 0; offset = 2; kind = fields.Byte; ty = Short; slot = 1; initial = 65535 ∷ [] }
          ∷ record { «package» = 0; offset = 3; kind = fields.Int; ty = IntHigh; slot = 2; initial = 1 ∷ 2 ∷ [] }
          ∷ [];
      arrays = record { kind = ArrInt; initial = 65535 ∷ 65534 ∷ [] } ∷ [];
      indexes = None ∷ [];
    }

abbrev entry : MethodRec
entry = method_of (ArrByte ∷ IntHigh ∷ IntLow ∷ []) 1

-- the array that is handed in comes after the initial one, and its bytes have a sign
begun :
    entry_state tagged (world_of entry) 0 (bytes (1 ∷ 255 ∷ []) ∷ number (negsuc 1) ∷ [])
    ≡ record {
      frames =
          record {
            method = 0;
            place = 0;
            registers = cells.Ref 2 ∷ cells.High 65535 ∷ cells.Low 65534 ∷ cells.Empty ∷ [];
            stack = [];
          } ∷ [];
      heap =
          record { kind = Ints; cells = cells.High 65535 ∷ cells.Low 65534 ∷ [] }
          ∷ record { kind = Bytes; cells = cells.Short (pos 1) ∷ cells.Short (negsuc 0) ∷ [] }
          ∷ [];
      statics = cells.Ref 1 ∷ cells.Short (negsuc 0) ∷ cells.High 1 ∷ cells.Low 2 ∷ [];
    }
begun = refl

-- an int is one argument
fitting : start_fault (world_of entry) 0 (null ∷ number (pos 70000) ∷ []) ≡ None
unfolding is_interface
fitting = refl

no_entry : start_fault (world_of entry) 1 [] ≡ Some NoEntry
no_entry = refl

not_static : start_fault (world_of (record entry { is_static = false })) 0 [] ≡ Some NotStatic
not_static = refl

too_few : start_fault (world_of entry) 0 (null ∷ []) ≡ Some (ArgCount 1 2)
unfolding is_interface
too_few = refl

-- a number is no reference
misfit : start_fault (world_of entry) 0 (number (pos 1) ∷ null ∷ []) ≡ Some (ArgKind 0)
unfolding is_interface
misfit = refl

no_room : first_without_room 0 4095 0 (bytes [] ∷ null ∷ bytes [] ∷ []) ≡ Some 2
no_room = refl

no_cells : first_without_room 0 0 32767 (bytes (7 ∷ []) ∷ bytes (7 ∷ []) ∷ []) ≡ Some 1
no_cells = refl

-- a thrown object that a method without an operand stack catches ends the run
abbrev throwing : State Cell
throwing =
    record {
      frames = record { method = 0; place = 0; registers = []; stack = [] } ∷ [];
      heap = record { kind = Instance 0; cells = [] } ∷ [];
      statics = [];
    }

caught_without_room : thrown tagged (world_of (method_of [] 0)) 1 throwing ≡ ends (Faulted StackFault) throwing
unfolding is_interface parent_of chain_over chain is_on_chain
caught_without_room = refl
