use Rattle.std.proofs.Common.{◌≡◌, ◌++◌, take, map}
use Rattle.xf_homes.specs.PlannedMethod.{source}
use Rattle.xf_emission.specs.Move.{load}
use Rattle.xf_code.proofs.emitter.Emitter.loads.Given as goal

abbrev pub invariant-homes : goal.invariant-homes
invariant-homes l = l.items.items ≡ l.fn.items.items ++ map (load (source l.self.plan)) (take l.home-index l.homes)
