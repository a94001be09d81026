use Rattle.std.proofs.Common.{◌≡◌, ℕ, ◌+◌, ◌<◌, ◌≤◌}
use Rattle.xf_allot.specs.Allotting.{MeetsOne}
use Rattle.jc_control.specs.Subject.{method, world_of}
use Rattle.xf_allot.specs.Variable.{variable_of}
use Rattle.xf_allot.proofs.fitting.interfere.Given as goal

abbrev pub invariant-registers : goal.invariant-registers
invariant-registers l = record {
  end : l.register-end ≡ l.fn.first.register + l.fn.first.width;
  from : l.fn.first.register ≤ l.register;
  none : (n : ℕ) → l.fn.first.register ≤ n → n < l.register → ¬ (MeetsOne (world_of l.subject) (method l.subject) n (variable_of l.second));
}
