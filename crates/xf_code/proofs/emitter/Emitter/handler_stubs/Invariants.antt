use Rattle.std.proofs.Common.{◌≡◌, ◌++◌, drop}
use Rattle.xf_homes.specs.PlannedMethod.{source}
use Rattle.xf_emission.specs.Emission.{catching_stubs}
use Rattle.xf_code.proofs.emitter.Emitter.handler_stubs.Given as goal

abbrev pub invariant-handlers : goal.invariant-handlers
invariant-handlers l =
    l.out.items.items ++ catching_stubs (source l.self.plan) l.n (drop l.n l.handler-items)
    ≡ l.fn.out.items.items ++ catching_stubs (source l.self.plan) 0 l.handler-items
