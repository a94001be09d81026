use Rattle.std.proofs.Common.{◌≡◌, ℕ, ◌<◌, ◌≤◌, ◌*◌, length, sum}
use Rattle.digraph.specs.Graph.{weight_of}
use Rattle.vm_bound.specs.Weights.{measure, most_each}
use Rattle.vm_bound.proofs.weighing.weights.Given as goal

abbrev pub invariant-methods : goal.invariant-methods
invariant-methods l = record {
  long : length l.weights.items ≡ l.method;
  are : (n : ℕ) → n < l.method → weight_of l.weights.items n ≡ measure l.world l.by n;
  most : sum l.weights.items ≤ most_each l.by * l.method;
}

abbrev pub invariant-others : goal.invariant-others
invariant-others l = record {
  long : length l.weights.items ≡ l.counter;
  are : (n : ℕ) → n < length l.world.methods → weight_of l.weights.items n ≡ measure l.world l.fn.by n;
  others : (n : ℕ) → length l.world.methods ≤ n → weight_of l.weights.items n ≡ 0;
  most : sum l.weights.items ≤ most_each l.fn.by * length l.world.methods;
}
