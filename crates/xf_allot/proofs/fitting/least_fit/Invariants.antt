use Rattle.std.proofs.Common.{ℕ, ◌<◌, ◌≤◌, ◌-◌}
use Rattle.xf_allot.specs.Allotting.{AllFit}
use Rattle.jc_control.specs.Subject.{method, world_of}
use Rattle.xf_allot.proofs.fitting.least_fit.Given as goal

abbrev pub invariant-registers : goal.invariant-registers
invariant-registers l = record {
  from : l.subject.rec.now.nargs ≤ l.at;
  within : l.at ≤ l.variable.register;
  none : (n : ℕ) → l.subject.rec.now.nargs ≤ n → n < l.at → ¬ (AllFit (world_of l.subject) (method l.subject) l.variable n l.before);
}

abbrev pub decreases-registers : goal.decreases-registers
decreases-registers l = l.variable.register - l.at
