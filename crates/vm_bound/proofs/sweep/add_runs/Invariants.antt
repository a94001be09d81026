use Rattle.std.proofs.Common.{◌≤◌, ◌<◌, ℕ, List, length}
use Rattle.std.specs.Prelude.{All}
use Rattle.vm_bound.specs.Runs.{IsSweep, IsFree}
use Rattle.vm_bound.proofs.sweep.add_runs.Given as goal

abbrev pub invariant-begun : goal.invariant-begun
invariant-begun l = record {
  inside : All (λ p. p < length l.order) l.begun.items;
  most : l.at ≤ l.to;
  sweeps :
      (naming : List ℕ) (k : ℕ)
      → IsFree naming k l.to
      → IsSweep l.order l.ends naming k l.from l.fn.begun.items l.fn.blocks.items
      → IsSweep l.order l.ends naming k l.at l.begun.items l.blocks.items;
}

abbrev pub decreases-begun : goal.decreases-begun
decreases-begun l = length l.begun.items
