use Rattle.std.proofs.Common.{◌≡◌, ◌-◌}
use Rattle.std.specs.List.{range_with_len}
use Rattle.jc_resolve.specs.Fault.{link_place}
use Rattle.first_fault.specs.Least.{least_from}
use Rattle.jc_resolve.specs.Conditions.{import_fault}
use Rattle.jc_resolve.proofs.imports.imports_of.Given as goal

abbrev pub invariant-imports : goal.invariant-imports
invariant-imports l =
    least_from link_place l.least (import_fault l.packages l.«package») (range_with_len l.token (l.count - l.token)) ≡ least_from link_place
    l.initial.least (import_fault l.packages l.«package») (range_with_len 0 l.count)
