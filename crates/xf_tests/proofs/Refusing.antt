-- Steps of a method that runs alone, and the number that it returns.
use Rattle.std.proofs.Common.{◌≡◌, ℕ, List, [], refl, arith}
use Rattle.std.specs.Prelude.{Some, Ok, pos, slice_get, unsigned_abs}
use Rattle.jc_base.specs.declared.record.MethodRec.{MethodRec}
use Rattle.jc_base.specs.World.{Linked}
use Rattle.jc_decode.specs.declared.insn.Placed.{Placed}
use Rattle.jc_ops.specs.declared.operation.Operation.{Operation}
use Rattle.jc_ops.specs.Resolve.{Resolves}
use Rattle.vm_store.specs.declared.cell.Cell.{Cell}
use Rattle.vm_store.specs.declared.cell.Cell.TheVariants as cells
use Rattle.vm_store.specs.Cells.{tagged}
use Rattle.vm_store.specs.State.{Frame, Object}
use Rattle.vm_step.specs.declared.ending.Ending.{Ending}
use Rattle.vm_step.specs.declared.ending.Ending.TheVariants as endings
use Rattle.vm_step.specs.declared.ending.Plain.TheVariants.{Returned}
use Rattle.vm_step.specs.declared.ending.Value.TheVariants as values
use Rattle.vm_step.specs.Methods.{code_at, instruction_at}
use Rattle.vm_step.specs.Step.{Steps, performed, performs}
use Rattle.xf_tests.proofs.Unlike.{alone}

-- a step of a method that runs alone
pub does :
    (w : Linked) (m : MethodRec) (f : Frame Cell) (heap : List (Object Cell)) (i : Placed) (op : Operation)
    → slice_get w.methods f.method ≡ Some m
    → instruction_at (code_at w f.method) f.place ≡ Some i
    → Resolves w m i.place i.insn (Ok op)
    → Steps tagged w (alone f heap []) (performed tagged w i op (alone f heap []))
does w m f heap i op method there resolves =
    performs (record { runs = omega arith; method = method; instruction = there }) op resolves refl

-- a frame of the only method
abbrev pub frame : ℕ → List Cell → List Cell → Frame Cell
frame place registers stack = record { method = 0; place = place; registers = registers; stack = stack }

abbrev pub number : ℕ → Cell
number n = cells.Short (pos n)

-- the number that a run returned
abbrev pub returned-number : Ending → ℕ
returned-number (endings.Plain (Returned (values.Short n))) = unsigned_abs n
returned-number (endings.Plain (Returned (values.Ref h))) = h
returned-number e = 0
