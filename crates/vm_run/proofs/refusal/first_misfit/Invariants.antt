use Rattle.std.proofs.Common.{◌≡◌, ◌≤◌, drop}
use Rattle.std.specs.Prelude.{filter}
use Rattle.vm_step.specs.Start.{first_misfit, is_parameter}
use Rattle.vm_run.proofs.refusal.first_misfit.Given as goal

abbrev pub invariant-types : goal.invariant-types
invariant-types l = record {
  few : l.n ≤ l.ty-index;
  same : first_misfit l.n (drop l.n l.args) (filter is_parameter (drop l.ty-index l.types))
      ≡ first_misfit 0 l.args (filter is_parameter l.types);
}
