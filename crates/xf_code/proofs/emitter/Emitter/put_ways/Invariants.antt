use Rattle.std.proofs.Common.{◌≡◌, ◌++◌, drop}
use Rattle.xf_homes.specs.PlannedMethod.{source}
use Rattle.xf_emission.specs.Jump.{stubs_of}
use Rattle.xf_code.specs.Ways.{way_labels}
use Rattle.xf_code.proofs.emitter.Emitter.put_ways.Given as goal

abbrev pub invariant-ways : goal.invariant-ways
invariant-ways l = record {
  so_far :
      l.labels.items ++ way_labels (source l.self.plan) l.fork.placed.place l.fork.operation l.fork.operands l.n (drop l.n l.ways)
      ≡ way_labels (source l.self.plan) l.fork.placed.place l.fork.operation l.fork.operands 0 l.ways;
  led :
      l.stubs.items.items ++ stubs_of (source l.self.plan) l.fork.placed.place l.fork.operation l.fork.operands l.n (drop l.n l.ways)
      ≡ l.fn.stubs.items.items ++ stubs_of (source l.self.plan) l.fork.placed.place l.fork.operation l.fork.operands 0 l.ways;
}
