use Rattle.std.proofs.Common.{◌≡◌, ◌++◌}
use Rattle.jc_control.specs.Targets.{rest_of}
use Rattle.jc_decode.specs.Listing.{targets}
use Rattle.xf_homes.specs.PlannedMethod.{source}
use Rattle.xf_emission.specs.Jump.{leads}
use Rattle.xf_code.proofs.emitter.Emitter.labels_by.Given as goal

abbrev pub invariant-targets : goal.invariant-targets
invariant-targets l = record {
  so_far :
      l.all.items
      ++ leads (source l.self.plan) l.fn.fork.placed.place l.fn.fork.operation l.fn.fork.operands
      (targets l.self.plan.walk.code.bytes.now l.fn.fork.placed) (rest_of l.target-iterator)
      ≡ leads (source l.self.plan) l.fn.fork.placed.place l.fn.fork.operation l.fn.fork.operands
      (targets l.self.plan.walk.code.bytes.now l.fn.fork.placed)
      (targets l.self.plan.walk.code.bytes.now l.fn.fork.placed);
  whole : l.yielded ++ rest_of l.target-iterator ≡ targets l.self.plan.walk.code.bytes.now l.fn.fork.placed;
}
