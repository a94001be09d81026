use Rattle.std.proofs.Common.{◌≡◌, ◌-◌, ◌++◌}
use Rattle.xf_homes.specs.Home.{register_count}
use Rattle.xf_homes.specs.PlannedMethod.{source}
use Rattle.xf_emission.specs.Edge.{copies, locals_copies}
use Rattle.xf_code.proofs.emitter.Emitter.copies.Given as goal

abbrev pub invariant-locals : goal.invariant-locals
invariant-locals l =
    l.out.items.items ++ locals_copies (source l.self.plan) l.from l.to l.x (register_count l.self.plan.walk.rec.now - l.x)
    ≡ l.fn.out.items.items ++ copies (source l.self.plan) l.from l.to
