use Rattle.std.proofs.Common.{◌≡◌, ◌+◌, ◌≤◌, length}
use Rattle.cap_method.specs.MethodPart.{handlers_left}
use Rattle.cap_pool.specs.Pool.{entries}
use Rattle.jc_resolve.specs.Fault.{link_place}
use Rattle.first_fault.specs.Least.{least_from}
use Rattle.jc_link.specs.Catches.{handlers_from, catch_fault}
use Rattle.jc_link.proofs.catches.handlers_catch.Given as goal

abbrev pub invariant-handlers : goal.invariant-handlers
invariant-handlers l = record {
  fault : least_from link_place l.least (catch_fault l.names.packages l.classes)
      (handlers_from l.«package» (entries l.pool) l.number (handlers_left l.handler-iterator))
      ≡ least_from link_place l.initial.least (catch_fault l.names.packages l.classes)
      (handlers_from l.«package» (entries l.pool) 0 (handlers_left l.fn.handlers));
  count : l.number + length (handlers_left l.handler-iterator) ≤ 255;
}
