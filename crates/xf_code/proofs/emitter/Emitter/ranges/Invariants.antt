use Rattle.std.proofs.Common.{◌≡◌, ◌++◌, drop}
use Rattle.xf_homes.specs.PlannedMethod.{source}
use Rattle.xf_emission.specs.Emission.{ranges_from}
use Rattle.xf_code.proofs.emitter.Emitter.ranges.Given as goal

abbrev pub invariant-handlers : goal.invariant-handlers
invariant-handlers l =
    l.ranges.items ++ ranges_from (source l.self.plan) l.n (drop l.n l.handler-items)
    ≡ ranges_from (source l.self.plan) 0 l.handler-items
