use Rattle.std.specs.Prelude.{◌≡◌, ◌+◌, ◌*◌, ◌≤◌, drop, length}
use Rattle.jc_link.specs.Arrays.{array_records}
use Rattle.jc_link.proofs.image.array_count.Given as goal

abbrev pub invariant-packages : goal.invariant-packages
invariant-packages l = (l.total + length (array_records (drop l.n l.packages)) ≡ length (array_records l.packages)) × (l.total ≤ l.n * 65535)
