-- Worked cases of what a step comes to: switches, arrays of references, constructors, exceptions, and the ends of runs.
use Rattle.std.specs.Prelude.{◌≡◌, ℕ, pos, negsuc, true, false, List, [], ◌∷◌, replicate, Option, Some, None}
use Rattle.std.proofs.Common.{refl}
use Rattle.jc_base.specs.declared.ty.Kind.TheVariants as fields
use Rattle.jc_base.specs.declared.record.ClassRec.{ClassRec}
use Rattle.jc_base.specs.declared.record.Handler.{Handler}
use Rattle.jc_base.specs.declared.record.MethodRec.{MethodRec}
use Rattle.jc_base.specs.Class.{is_interface, parent_of, chain_over, chain}
use Rattle.jc_base.specs.Dispatch.{cells_of, own_cells}
use Rattle.jc_base.specs.Order.{is_on_chain}
use Rattle.jc_base.specs.World.{Linked}
use Rattle.jc_decode.specs.declared.insn.Insn.{Insn}
use Rattle.jc_decode.specs.Cases.{cases}
use Rattle.jc_decode.specs.Layout.{opcode, layout_of}
use Rattle.jc_ops.specs.declared.operation.Want.TheVariants.{Receiver}
use Rattle.jc_ops.specs.declared.operation.Choice.TheVariants as choices
use Rattle.jc_ops.specs.declared.operation.Width.TheVariants as widths
use Rattle.vm_store.specs.declared.cell.Cell.{Cell}
use Rattle.vm_store.specs.declared.cell.Cell.TheVariants as cells
use Rattle.vm_store.specs.declared.cell.ObjectKind.TheVariants.{Instance, Shorts, References}
use Rattle.vm_store.specs.Cells.{tagged}
use Rattle.vm_store.specs.State.{Frame, Object, State, with_call}
use Rattle.vm_store.specs.Objects.{has_room}
use Rattle.vm_step.specs.declared.ending.Exception.TheVariants.{NullPointer, Arithmetic, ArrayIndex, ArrayStore}
use Rattle.vm_step.specs.declared.ending.Plain.TheVariants.{Threw, TooDeep, HeapFull}
use Rattle.vm_step.specs.declared.ending.Ending.TheVariants.{Plain}
use Rattle.vm_step.specs.Act.{goes, jumps, calls, raises}
use Rattle.vm_step.specs.Branching.{switch_act}
use Rattle.vm_step.specs.Fields.{array_write_act}
use Rattle.vm_step.specs.Calls.{chosen_act}
use Rattle.vm_step.specs.Raising.{running, ends, thrown, raised}
use Rattle.vm_step.specs.Settled.{entered_call, made}

-- ---- a world: class 0 is object, 1 is throwable, 2 is that of a null pointer and 3 that of a division by zero

abbrev class : Option ℕ → ClassRec
class parent =
    record { «package» = 0; interface = false; parent = parent; cells = 0; own = []; implements = []; public = []; visible = [] }

abbrev method_with : List Handler → MethodRec
method_with handlers =
    record {
      «package» = 0;
      class = 0;
      token = 0;
      class_no = 0;
      method_no = 0;
      is_static = false;
      is_init = false;
      is_abstract = false;
      sig = record { args = []; result = None };
      nargs = 0;
      max_locals = 0;
      max_stack = 4;
      code_at = 0;
      code_len = 1;
      handlers = handlers;
    }

-- method 0 catches nothing; method 1 has two handlers over its places below 20, of which the second catches a division by zero
abbrev world : Linked
world =
    record {
      infos = (122 ∷ []) ∷ [];
      pools = [] ∷ [];
      classes =
          record {
            records = class None ∷ class (Some 0) ∷ class (Some 1) ∷ class (Some 1) ∷ [];
            roles = 0 ∷ 1 ∷ 2 ∷ 3 ∷ 1 ∷ 1 ∷ 1 ∷ 1 ∷ [];
          };
      methods =
          method_with []
          ∷ method_with
          (record { start = 0; end = 20; entry = 30; index = 1; class = 2 }
          ∷ record { start = 0; end = 20; entry = 40; index = 2; class = 3 }
          ∷ [])
          ∷ [];
      statics = [];
      arrays = [];
      indexes = None ∷ None ∷ [];
    }

abbrev frame : ℕ → ℕ → List Cell → Frame Cell
frame method place stack = record { method = method; place = place; registers = []; stack = stack }

abbrev object_of : ℕ → Object Cell
object_of class = record { kind = Instance class; cells = [] }

abbrev at : List (Object Cell) → List (Frame Cell) → State Cell
at heap frames = record { frames = frames; heap = heap; statics = cells.Short (pos 9) ∷ [] }

abbrev over : List Cell → State Cell
over stack = at [] (frame 0 0 stack ∷ [])

-- ---- switches: to the case of the key, and else to the default

-- stableswitch: default 20, from 1 to 2 the offsets 7 and 9
abbrev short_table : List ℕ
short_table = 115 ∷ 0 ∷ 20 ∷ 0 ∷ 1 ∷ 0 ∷ 2 ∷ 0 ∷ 7 ∷ 0 ∷ 9 ∷ []

abbrev short_table_insn : Insn
short_table_insn = record { op = 115; x = pos 20; y = pos 1; z = pos 2; len = 11 }

in_short_table : switch_act tagged short_table short_table_insn widths.Short (over (cells.Short (pos 2) ∷ [])) ≡ jumps (pos 9) (over [])
unfolding cases layout_of opcode
in_short_table = refl

past_short_table : switch_act tagged short_table short_table_insn widths.Short (over (cells.Short (pos 3) ∷ [])) ≡ jumps (pos 20) (over [])
unfolding cases layout_of opcode
past_short_table = refl

-- itableswitch: default 20, from 1 to 1 the offset 7
abbrev int_table : List ℕ
int_table = 116 ∷ 0 ∷ 20 ∷ 0 ∷ 0 ∷ 0 ∷ 1 ∷ 0 ∷ 0 ∷ 0 ∷ 1 ∷ 0 ∷ 7 ∷ []

abbrev int_table_insn : Insn
int_table_insn = record { op = 116; x = pos 20; y = pos 1; z = pos 1; len = 13 }

in_int_table : switch_act tagged int_table int_table_insn widths.Int (over (cells.Low 1 ∷ cells.High 0 ∷ [])) ≡ jumps (pos 7) (over [])
unfolding cases layout_of opcode
in_int_table = refl

-- the high half counts too
past_int_table : switch_act tagged int_table int_table_insn widths.Int (over (cells.Low 1 ∷ cells.High 1 ∷ [])) ≡ jumps (pos 20) (over [])
unfolding cases layout_of opcode
past_int_table = refl

-- slookupswitch: default 20, the keys -1 and 5 with the offsets 7 and 9
abbrev short_pairs : List ℕ
short_pairs = 117 ∷ 0 ∷ 20 ∷ 0 ∷ 2 ∷ 255 ∷ 255 ∷ 0 ∷ 7 ∷ 0 ∷ 5 ∷ 0 ∷ 9 ∷ []

abbrev short_pairs_insn : Insn
short_pairs_insn = record { op = 117; x = pos 20; y = pos 2; z = pos 0; len = 13 }

in_short_pairs : switch_act tagged short_pairs short_pairs_insn widths.Short (over (cells.Short (negsuc 0) ∷ [])) ≡ jumps (pos 7) (over [])
unfolding cases layout_of opcode
in_short_pairs = refl

past_short_pairs : switch_act tagged short_pairs short_pairs_insn widths.Short (over (cells.Short (pos 0) ∷ [])) ≡ jumps (pos 20) (over [])
unfolding cases layout_of opcode
past_short_pairs = refl

-- ilookupswitch: default 20, the key 65,537 with the offset 7
abbrev int_pairs : List ℕ
int_pairs = 118 ∷ 0 ∷ 20 ∷ 0 ∷ 1 ∷ 0 ∷ 1 ∷ 0 ∷ 1 ∷ 0 ∷ 7 ∷ []

abbrev int_pairs_insn : Insn
int_pairs_insn = record { op = 118; x = pos 20; y = pos 1; z = pos 0; len = 11 }

in_int_pairs : switch_act tagged int_pairs int_pairs_insn widths.Int (over (cells.Low 1 ∷ cells.High 1 ∷ [])) ≡ jumps (pos 7) (over [])
unfolding cases layout_of opcode
in_int_pairs = refl

past_int_pairs : switch_act tagged int_pairs int_pairs_insn widths.Int (over (cells.Low 1 ∷ cells.High 0 ∷ [])) ≡ jumps (pos 20) (over [])
unfolding cases layout_of opcode
past_int_pairs = refl

-- ---- a write into an array of references: null is asked first, then the index, then whether the array may keep the value

-- object 1 is an array of one throwable, object 2 an instance of object, and object 3 one of throwable
abbrev array_of_throwables : List (Object Cell)
array_of_throwables = record { kind = References 1; cells = cells.Ref 0 ∷ [] } ∷ object_of 0 ∷ object_of 1 ∷ []

-- the value is on the index, and that on the array
abbrev writing : ℕ → ℕ → ℕ → State Cell
writing value index array =
    at array_of_throwables (frame 0 0 (cells.Ref value ∷ cells.Short (pos index) ∷ cells.Ref array ∷ []) ∷ [])

into_null : array_write_act tagged world.classes fields.Ref (writing 2 1 0) ≡ raises NullPointer
into_null = refl

past_its_end : array_write_act tagged world.classes fields.Ref (writing 2 1 1) ≡ raises ArrayIndex
past_its_end = refl

no_throwable : array_write_act tagged world.classes fields.Ref (writing 2 0 1) ≡ raises ArrayStore
unfolding is_interface parent_of chain_over chain is_on_chain
no_throwable = refl

kept : array_write_act tagged world.classes fields.Ref (writing 3 0 1)
    ≡ goes (at (record { kind = References 1; cells = cells.Ref 3 ∷ [] } ∷ object_of 0 ∷ object_of 1 ∷ []) (frame 0 0 [] ∷ []))
unfolding is_interface parent_of chain_over chain is_on_chain
kept = refl

-- ---- a constructor readies each cell that refers to an object that the `new` at its receiver's place made

readied : chosen_act tagged world.classes (record { method = 0; receiver = Some (Receiver 0); choice = choices.Special }) 0 choices.Special
    (at (object_of 0 ∷ object_of 0 ∷ []) (frame 0 0 (cells.Fresh 1 5 ∷ cells.Fresh 2 9 ∷ cells.Fresh 1 5 ∷ []) ∷ []))
    ≡ calls 0 1 (at (object_of 0 ∷ object_of 0 ∷ []) (frame 0 0 (cells.Ref 1 ∷ cells.Fresh 2 9 ∷ cells.Ref 1 ∷ []) ∷ []))
readied = refl

-- ---- exceptions

-- object 1 is of a division by zero: two frames of a method without handlers are dropped, and of the two handlers below the second takes it
unwound_over_two : thrown tagged world 1 (at (object_of 3 ∷ []) (frame 0 0 [] ∷ frame 0 5 (cells.Ref 1 ∷ []) ∷ frame 1 7 [] ∷ []))
    ≡ running (at (object_of 3 ∷ []) (frame 1 40 (cells.Ref 1 ∷ []) ∷ []))
unfolding is_interface parent_of chain_over chain is_on_chain
unwound_over_two = refl

-- outside of the range nothing is caught
not_in_range : thrown tagged world 1 (at (object_of 3 ∷ []) (frame 1 20 [] ∷ []))
    ≡ ends (Plain (Threw 3 1)) (at (object_of 3 ∷ []) (frame 1 20 [] ∷ []))
unfolding is_interface parent_of chain_over chain is_on_chain
not_in_range = refl

-- an exception that nothing catches leaves its object behind the others
raised_and_left : raised tagged world Arithmetic (at (object_of 0 ∷ []) (frame 0 0 [] ∷ []))
    ≡ ends (Plain (Threw 3 2)) (at (object_of 0 ∷ object_of 3 ∷ []) [])
unfolding is_interface parent_of chain_over chain is_on_chain cells_of own_cells
raised_and_left = refl

-- ---- limits

-- a call may make the 64th frame, and not the 65th
abbrev deep : ℕ → State Cell
deep n = at [] (replicate n (frame 0 0 []))

the_64th_frame : entered_call tagged world 0 0 (deep 63) ≡ running (with_call tagged world.methods (deep 63) 0 0)
the_64th_frame = refl

the_65th_frame : entered_call tagged world 0 0 (deep 64) ≡ ends (Plain TooDeep) (deep 64)
the_65th_frame = refl

-- there may be 4,096 objects
full_of_objects : made tagged world 0 (Instance 0) [] cells.Ref (at (replicate 4096 (object_of 0)) (frame 0 0 [] ∷ []))
    ≡ ends (Plain HeapFull) (at (replicate 4096 (object_of 0)) (frame 0 0 [] ∷ []))
full_of_objects = refl

-- and 32,768 cells of objects
abbrev shorts : ℕ → List Cell
shorts n = replicate n (cells.Short (pos 0))

full_of_cells : made tagged world 0 Shorts (shorts 32769) cells.Ref (at [] (frame 0 0 [] ∷ []))
    ≡ ends (Plain HeapFull) (at [] (frame 0 0 [] ∷ []))
full_of_cells = refl

room_for_cells : has_room (at (object_of 0 ∷ []) []) 32768 ≡ true
room_for_cells = refl
