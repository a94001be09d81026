use Rattle.std.proofs.Common.{◌≡◌, fold}
use Rattle.jc_control.specs.Targets.{rest_of}
use Rattle.jc_decode.specs.Listing.{targets}
use Rattle.xf_emission.specs.Jump.{with_target, each_once}
use Rattle.xf_code.proofs.emitter.Emitter.ways.Given as goal

abbrev pub invariant-targets : goal.invariant-targets
invariant-targets l = fold with_target l.ways.keys (rest_of l.target-iterator) ≡ each_once (targets l.self.plan.walk.code.bytes.now l.fn.placed)
