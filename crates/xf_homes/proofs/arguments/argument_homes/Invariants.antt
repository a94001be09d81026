use Rattle.std.proofs.Common.{◌≡◌, ◌≤◌, ◌+◌, drop}
use Rattle.indexmap.specs.IndexSet.{insert_all}
use Rattle.xf_homes.specs.Walk.{argument_homes, same_home, values_from}
use Rattle.xf_homes.proofs.arguments.argument_homes.Given as goal

abbrev pub invariant-cells : goal.invariant-cells
invariant-cells l = record {
  kept : insert_all (λ a b. same_home b a) l.homes.keys (values_from l.slot (drop l.ty-index l.ty-items)) ≡ argument_homes l.rec;
  room : l.slot ≤ 1 + l.ty-index;
}
