use Rattle.std.proofs.Common.{◌≡◌, ◌+◌, length}
use Rattle.cap_method.specs.MethodPart.{handlers_left, handlers}
use Rattle.cap_components.specs.Order.{least_of, least_from}
use Rattle.std.specs.List.{enumerate_from}
use Rattle.cap_package.specs.HandlerClaims.{claims_seen, home_fault}
use Rattle.cap_package.proofs.handlers.entry_faults.Given as goal

abbrev pub invariant-handlers : goal.invariant-handlers
invariant-handlers l =
    (least_from l.least (home_fault (claims_seen l.entries)) (enumerate_from l.number (handlers_left l.iterator'))
    ≡ least_of (home_fault (claims_seen l.entries)) (enumerate_from 0 (handlers l.methods)))
    × (l.number + length (handlers_left l.iterator') ≡ l.count)
