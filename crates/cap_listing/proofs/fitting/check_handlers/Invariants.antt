use Rattle.std.proofs.Common.{◌≡◌, drop}
use Rattle.cap_listing.specs.Placing.{range_faults, first_refused}
use Rattle.cap_listing.proofs.fitting.check_handlers.Given as goal

-- nothing is wrong with the handlers so far
abbrev pub invariant-handlers : goal.invariant-handlers
invariant-handlers l =
    first_refused (range_faults l.n l.size l.number (drop l.number l.handlers)) ≡ first_refused (range_faults l.n l.size 0 l.handlers)
