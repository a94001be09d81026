use Rattle.std.proofs.Common.{◌≡◌, ◌≤◌, ◌++◌, take, map, reverse, length}
use Rattle.xf_homes.specs.PlannedMethod.{source}
use Rattle.xf_emission.specs.Move.{store}
use Rattle.xf_code.proofs.emitter.Emitter.spill.Given as goal

abbrev pub invariant-homes : goal.invariant-homes
invariant-homes l = record {
  within : l.left ≤ length l.homes;
  so_far : l.items.items ++ map (store (source l.self.plan)) (reverse (take l.left l.homes)) ≡ l.fn.items.items
      ++ map (store (source l.self.plan)) (reverse l.homes);
}

abbrev pub decreases-homes : goal.decreases-homes
decreases-homes l = l.left
