use Rattle.std.proofs.Common.{◌≡◌, ◌++◌, ◌-◌, map, take}
use Rattle.cap_method.specs.MethodPart.{handlers_left}
use Rattle.jc_resolve.specs.Homes.{handler_at}
use Rattle.jc_resolve.proofs.method_records.handlers_named.Given as goal

abbrev pub invariant-handlers : goal.invariant-handlers
invariant-handlers l =
    l.named.items ++ map (handler_at l.home l.code_at) (take (l.count - l.counter) (handlers_left l.rest))
    ≡ map (handler_at l.home l.code_at) (take l.count (handlers_left l.fn.handlers))
