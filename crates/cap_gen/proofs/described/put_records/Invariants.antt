use Rattle.std.proofs.Common.{◌≡◌, ◌++◌}
use Rattle.cap_gen.proofs.Loops.{each_from}
use Rattle.cap_gen.specs.Described.{described_bytes}
use Rattle.cap_gen.proofs.described.put_records.Given as goal

abbrev pub invariant-methods : goal.invariant-methods
invariant-methods l = l.out.items ++ each_from described_bytes l.number ≡ l.fn.out.items ++ each_from described_bytes 0
