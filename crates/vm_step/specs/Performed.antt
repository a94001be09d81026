-- What each operation comes to (JCVM 2.2, chapter 7).
use Rattle.jc_base.specs.World.{Linked}
use Rattle.jc_decode.specs.declared.insn.Insn.{Insn}
use Rattle.jc_ops.specs.declared.operation.Operation.{Operation}
use Rattle.jc_ops.specs.declared.operation.Operation.TheVariants as ops
use Rattle.vm_store.specs.Cells.{Cells}
use Rattle.vm_store.specs.State.{State, top}
use Rattle.vm_step.specs.Act.{Act, goes}
use Rattle.vm_step.specs.Values.{with_constant, with_load, with_store, with_increment, with_move, arithmetic_act}
use Rattle.vm_step.specs.Branching.{branch_act, switch_act}
use Rattle.vm_step.specs.Fields.{with_static_read, with_static_write, field_read_act, field_write_act, array_read_act, array_write_act}
use Rattle.vm_step.specs.Fields.{array_length_act}
use Rattle.vm_step.specs.Objects.{new_act, new_array_act, throw_act, type_test_act}
use Rattle.vm_step.specs.Calls.{call_act, return_act}
use Rattle.vm_step.specs.Methods.{code_at}

-- the operation of the instruction i, in a state in which it has what it asks
abbrev pub act : {A : Type 0} → Cells A → Linked → Insn → Operation → State A → Act A
act k w i (ops.Constant c) s = goes (with_constant k c s)
act k w i (ops.Load sort x) s = goes (with_load k sort x s)
act k w i (ops.Store sort x) s = goes (with_store k sort x s)
act k w i (ops.Increment width x amount) s = goes (with_increment k width x amount s)
act k w i (ops.Move move) s = goes (with_move move s)
act k w i (ops.Arithmetic a) s = arithmetic_act k a s
act k w i (ops.ArrayRead kind) s = array_read_act k kind s
act k w i (ops.ArrayWrite kind) s = array_write_act k w.classes kind s
act k w i ops.ArrayLength s = array_length_act k s
act k w i (ops.Branch branch) s = branch_act k i branch s
act k w i (ops.Switch width) s = switch_act k (code_at w (top s).method) i width s
act k w i (ops.StaticRead f) s = goes (with_static_read k f s)
act k w i (ops.StaticWrite f) s = goes (with_static_write k f s)
act k w i (ops.FieldRead f holder) s = field_read_act k f holder s
act k w i (ops.FieldWrite f holder) s = field_write_act k f holder s
act k w i (ops.Call callee) s = call_act k w callee s
act k w i (ops.New place class) s = new_act k w.classes place class s
act k w i (ops.NewArray ty) s = new_array_act k ty s
act k w i ops.Throw s = throw_act k s
act k w i (ops.TypeTest test ty) s = type_test_act k w.classes test ty s
act k w i (ops.Return result) s = return_act k result s
