use Rattle.std.specs.Prelude.{◌≡◌, ◌+◌, ◌*◌, ◌≤◌, drop}
use Rattle.jc_link.specs.Arrays.{array_records, initial_cells}
use Rattle.jc_link.proofs.image.array_cells.Given as goal

abbrev pub invariant-packages : goal.invariant-packages
invariant-packages l = (l.total + initial_cells (array_records (drop l.n l.packages)) ≡ initial_cells (array_records l.packages)) × (l.total ≤ l.n * 65535)
