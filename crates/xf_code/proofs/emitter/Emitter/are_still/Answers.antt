use Rattle.std.proofs.Common.{subst}
use Rattle.std.specs.Prelude.{IfSome}
use Rattle.xf_homes.specs.PlannedMethod.{source}
use Rattle.xf_homes.proofs.Asking.{same_locals}
use Rattle.xf_code.specs.Quiet.{IsQuiet}
use Rattle.xf_code.proofs.Still.{quiet-copies}
use Rattle.xf_code.proofs.emitter.Emitter.are_still.Goals as goal

pub returns-in-Some : goal.returns-in-Some
returns-in-Some c = λ is.
    let s = source c.args.self.now.plan in
    quiet-copies s c.args.from c.args.to c.in-Some.place (subst (λ o. IfSome o (IsQuiet s c.args.from c.args.to)) c.in-Some.is c.requires)
    (same_locals (s.frames c.args.to) (s.frames c.in-Some.place) (c.has_same_registers.ensures.0 is))
