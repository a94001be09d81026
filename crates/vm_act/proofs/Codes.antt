-- The code of a method of a world.
use Rattle.std.proofs.Common.{◌≡◌, ℕ, ◌≤◌, List, [], length, take, drop, arith, length-take}
use Rattle.std.specs.Prelude.{Some, option_map, slice_get}
use Rattle.jc_base.specs.declared.record.MethodRec.{MethodRec}
use Rattle.jc_base.specs.Linked.{IsMethod}
use Rattle.jc_base.specs.World.{Linked, code_of}
use Rattle.jc_base.proofs.CodeLengths.{length-short}
use Rattle.vm_step.specs.Methods.{code_at}

pub code-is : (w : Linked) (n : ℕ) (m : MethodRec) (code : List ℕ) → slice_get w.methods n ≡ Some m
    → option_map (code_of w.infos) (slice_get w.methods n) ≡ Some code → code ≡ code_at w n
code-is w n m code e read = grind (arith)

pub code-short : (w : Linked) (n : ℕ) (m : MethodRec) → slice_get w.methods n ≡ Some m → IsMethod w.infos w.pools w.classes m
    → length (code_at w n) ≤ 65535
code-short w n m e method = grind (arith, drop, length, take, length-take, length-short)
