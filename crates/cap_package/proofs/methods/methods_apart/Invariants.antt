use Rattle.std.proofs.Common.{◌≡◌, map}
use Rattle.cap_desc.specs.MembersLeft.{methods_but_left}
use Rattle.cap_components.specs.Order.{least_from, least_of}
use Rattle.cap_package.specs.Pairs.{pairs}
use Rattle.cap_package.specs.MethodChecks.{overlap_pair}
use Rattle.cap_package.specs.Reaches.{method_start, method_reach}
use Rattle.cap_package.proofs.methods.methods_apart.Given as goal

abbrev pub invariant-methods : goal.invariant-methods
invariant-methods l =
    least_from l.least (method_reach l.info.bytes.now (map method_start (methods_but_left l.fn.described)))
    (methods_but_left l.method-iterator)
    ≡ least_of (overlap_pair l.info.bytes.now) (pairs (methods_but_left l.fn.described))
