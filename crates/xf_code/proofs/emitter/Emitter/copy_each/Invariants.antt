use Rattle.std.proofs.Common.{◌≡◌, ◌++◌, take, flat_map}
use Rattle.xf_homes.specs.PlannedMethod.{source}
use Rattle.xf_emission.specs.Move.{copy}
use Rattle.xf_code.proofs.emitter.Emitter.copy_each.Given as goal

abbrev pub invariant-homes : goal.invariant-homes
invariant-homes l = l.items.items ≡ l.fn.items.items ++ flat_map (copy (source l.self.plan) l.from) (take l.home-index l.homes)
