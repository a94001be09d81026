use Rattle.std.proofs.Common.{◌≡◌, ◌++◌, take, flat_map}
use Rattle.xf_homes.specs.PlannedMethod.{source}
use Rattle.xf_emission.specs.Edge.{copy_new}
use Rattle.xf_code.proofs.emitter.Emitter.copy_all.Given as goal

abbrev pub invariant-needed : goal.invariant-needed
invariant-needed l = l.items.items ≡ l.fn.items.items ++ flat_map (copy_new (source l.self.plan) l.from l.there.keys) (take l.home-index l.needed)
