use Rattle.std.proofs.Common.{◌≡◌, ◌++◌}
use Rattle.cap_gen.specs.Methods.{entry_table}
use Rattle.cap_gen.proofs.Loops.{each_from}
use Rattle.cap_gen.proofs.methods.put_table.Given as goal

abbrev pub invariant-methods : goal.invariant-methods
invariant-methods l = l.out.items ++ each_from entry_table l.number ≡ l.fn.out.items ++ each_from entry_table 0
