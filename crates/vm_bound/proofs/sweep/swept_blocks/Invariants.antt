use Rattle.std.proofs.Common.{◌<◌, ◌≤◌, length}
use Rattle.std.specs.Prelude.{All}
use Rattle.vm_bound.specs.Runs.{IsSweep, IsFree}
use Rattle.vm_bound.proofs.sweep.swept_blocks.Given as goal

abbrev pub invariant-naming : goal.invariant-naming
invariant-naming l = record {
  inside : All (λ p. p < length l.order) l.begun.items;
  free : IsFree l.naming l.position-index l.from;
  most : l.from ≤ length l.order;
  sweep : IsSweep l.order l.ends l.naming l.position-index l.from l.begun.items l.blocks.items;
}
