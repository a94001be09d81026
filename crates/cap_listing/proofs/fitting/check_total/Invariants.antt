use Rattle.std.proofs.Common.{◌≡◌, ◌≤◌, ◌+◌, drop, min}
use Rattle.cap_listing.specs.Placing.{handler_total}
use Rattle.cap_listing.proofs.fitting.check_total.Given as goal

-- with the handlers that are left it is what it will be
abbrev pub invariant-methods : goal.invariant-methods
invariant-methods l = record {
  sum : min (l.count + handler_total (drop l.method-index l.methods)) 18446744073709551615 ≡ min (handler_total l.methods) 18446744073709551615;
  few : l.count ≤ 18446744073709551615;
}
