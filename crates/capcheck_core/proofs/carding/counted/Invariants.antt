use Rattle.std.proofs.Common.{◌≡◌, ◌≤◌, take, count_by}
use Rattle.cap_index.specs.Indexes.{has_code}
use Rattle.capcheck_core.proofs.carding.counted.Given as goal

abbrev pub invariant-methods : goal.invariant-methods
invariant-methods l = record {
  counts : l.count ≡ count_by has_code (take l.number l.world.methods);
  most : l.count ≤ l.number;
}
