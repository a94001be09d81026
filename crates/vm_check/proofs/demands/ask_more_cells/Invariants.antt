use Rattle.std.proofs.Common.{◌≡◌, drop}
use Rattle.std.specs.Prelude.{nat_lt}
use Rattle.jc_rules.specs.Footprint.{cells_asked}
use Rattle.vm_check.proofs.demands.ask_more_cells.Given as goal

-- the demands that are left ask for more where all do
abbrev pub invariant-demands : goal.invariant-demands
invariant-demands l = nat_lt l.count (cells_asked (drop l.demand-index l.demands)) ≡ nat_lt l.count (cells_asked l.demands)
