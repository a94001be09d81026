use Rattle.std.proofs.Common.{◌≡◌, ℕ, ◌+◌, ◌<◌, ◌≤◌}
use Rattle.xf_allot.specs.Graph.{AreApart}
use Rattle.jc_control.specs.Subject.{method, world_of}
use Rattle.xf_allot.proofs.fitting.meets.Given as goal

abbrev pub invariant-registers : goal.invariant-registers
invariant-registers l = record {
  end : l.other-end ≡ l.fn.variable.register + l.fn.variable.width;
  from : l.fn.variable.register ≤ l.other;
  none : (n : ℕ) → l.fn.variable.register ≤ n → n < l.other → ¬ (AreApart (world_of l.subject) (method l.subject) l.register n);
}
