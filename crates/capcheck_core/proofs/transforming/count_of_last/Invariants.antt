use Rattle.std.proofs.Common.{◌≡◌, ◌≤◌, length, take, count_by}
use Rattle.capcheck_core.specs.Typed.{is_of_last}
use Rattle.capcheck_core.proofs.transforming.count_of_last.Given as goal

abbrev pub invariant-methods : goal.invariant-methods
invariant-methods l = record {
  counts : l.count ≡ count_by (is_of_last (length l.world.infos)) (take l.number l.world.methods);
  most : l.count ≤ l.number;
}
