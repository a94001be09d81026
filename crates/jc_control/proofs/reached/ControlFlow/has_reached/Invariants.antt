use Rattle.std.proofs.Common.{◌≡◌, ℕ, ◌<◌, ◌≤◌, ◌-◌, false}
use Rattle.jc_control.specs.Flags.{flag}
use Rattle.jc_control.proofs.reached.ControlFlow.has_reached.Given as goal

abbrev pub invariant-range : goal.invariant-range
invariant-range l = record {
  from : l.handler.start ≤ l.place;
  none : (p : ℕ) → l.handler.start ≤ p → p < l.place → flag l.self.reached p ≡ false;
}

abbrev pub decreases-range : goal.decreases-range
decreases-range l = l.handler.end - l.place
