use Rattle.std.proofs.Common.{◌≡◌, ◌≤◌, ◌*◌, take}
use Rattle.std.specs.Prelude.{sum_by}
use Rattle.law_shared_world.specs.SharedCode.{laid_of}
use Rattle.xf_share.proofs.fewer.laid_locals.Given as goal

abbrev pub invariant-laid : goal.invariant-laid
invariant-laid l = record {
  sums : l.sum ≡ sum_by laid_of (take l.element-index l.laid);
  most : l.sum ≤ 255 * l.element-index;
}
