use Rattle.std.proofs.Common.{◌≡◌, ◌-◌, drop}
use Rattle.cap_method.specs.MethodPart.{handlers_left}
use Rattle.cap_listing.proofs.package_methods.handlers_after.Given as goal

abbrev pub invariant-passed : goal.invariant-passed
invariant-passed l = drop (l.count - l.counter) (handlers_left l.rest) ≡ drop l.count (handlers_left l.fn.handlers)
