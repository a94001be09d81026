use Rattle.std.proofs.Common.{◌∙◌, sym, subst}
use Rattle.std.specs.Prelude.{IfSome}
use Rattle.xf_homes.specs.PlannedMethod.{source}
use Rattle.xf_code.specs.Quiet.{IsQuiet}
use Rattle.xf_code.proofs.Still.{quiet-local}
use Rattle.xf_code.proofs.emitter.Emitter.is_still.Goals as goal

pub returns-in-Some : goal.returns-in-Some
returns-in-Some c = λ is.
    let s = source c.args.self.now.plan in
    quiet-local s c.args.from c.args.to c.in-Some.place c.args.x (subst (λ o. IfSome o (IsQuiet s c.args.from c.args.to)) c.in-Some.is c.requires)
    (sym c.local.ensures ∙ (c.same_value.ensures is ∙ c.local-in-Some.ensures))
