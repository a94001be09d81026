use Rattle.std.proofs.Common.{◌≡◌, min, take}
use Rattle.xf_homes.specs.Order.{register_sum}
use Rattle.xf_homes.proofs.finding.counted.Given as goal

abbrev pub invariant-homes : goal.invariant-homes
invariant-homes l = l.sum ≡ min (register_sum (take l.home-index l.home-items)) 4294967295
