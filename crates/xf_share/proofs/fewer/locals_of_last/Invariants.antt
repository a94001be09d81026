use Rattle.std.proofs.Common.{◌≡◌, ◌≤◌, ◌*◌, take}
use Rattle.std.specs.Prelude.{sum_by}
use Rattle.law_shared_world.specs.SharedCode.{locals_of}
use Rattle.xf_share.proofs.fewer.locals_of_last.Given as goal

abbrev pub invariant-methods : goal.invariant-methods
invariant-methods l = record {
  sums : l.sum ≡ sum_by (locals_of l.world) (take l.number l.world.methods);
  most : l.sum ≤ 255 * l.number;
}
