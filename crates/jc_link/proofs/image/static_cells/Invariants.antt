use Rattle.std.specs.Prelude.{◌≡◌, ◌+◌, ◌*◌, ◌≤◌, drop}
use Rattle.jc_link.specs.Statics.{static_cells}
use Rattle.jc_link.proofs.image.static_cells.Given as goal

abbrev pub invariant-packages : goal.invariant-packages
invariant-packages l = (l.total + static_cells (drop l.n l.packages) ≡ static_cells l.packages) × (l.total ≤ l.n * 262140)
