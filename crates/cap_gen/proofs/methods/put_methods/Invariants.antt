use Rattle.std.proofs.Common.{◌≡◌, ◌++◌}
use Rattle.cap_gen.specs.Methods.{method_bytes}
use Rattle.cap_gen.proofs.Loops.{each_from}
use Rattle.cap_gen.proofs.methods.put_methods.Given as goal

abbrev pub invariant-methods : goal.invariant-methods
invariant-methods l = l.out.items ++ each_from (method_bytes l.seed) l.number ≡ l.fn.out.items ++ each_from (method_bytes l.seed) 0
