use Rattle.std.proofs.Common.{◌≡◌, ◌-◌, length}
use Rattle.xf_homes.specs.Walk.{cells_events, with_events}
use Rattle.xf_homes.proofs.walk.keep_cells.Given as goal

abbrev pub invariant-values : goal.invariant-values
invariant-values l =
    with_events l.homes.keys (cells_events l.place l.slot l.cells l.n (length l.cells - l.n))
    ≡ with_events l.fn.homes.keys (cells_events l.place l.slot l.cells 0 (length l.cells))
