use Rattle.std.proofs.Common.{◌≡◌, ◌+◌, ◌++◌, drop}
use Rattle.xf_homes.specs.Order.{register_sum, begins_from}
use Rattle.xf_homes.proofs.found.begins.Given as goal

abbrev pub invariant-homes : goal.invariant-homes
invariant-homes l = record {
  so_far : l.registers.items ++ begins_from l.register (drop l.home-index l.homes) ≡ begins_from 0 l.homes;
  sum : l.register + register_sum (drop l.home-index l.homes) ≡ register_sum l.homes;
}
