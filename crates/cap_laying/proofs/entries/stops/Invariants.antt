use Rattle.std.proofs.Common.{◌≡◌, drop}
use Rattle.std.specs.List.{list_any}
use Rattle.cap_laying.specs.HandlerTable.{is_in}
use Rattle.cap_laying.proofs.entries.stops.Given as goal

abbrev pub invariant-others : goal.invariant-others
invariant-others l = list_any (is_in l.handler) (drop l.outer-index l.later) ≡ list_any (is_in l.handler) l.later
