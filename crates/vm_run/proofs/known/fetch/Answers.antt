use Rattle.std.proofs.Common.{subst}
use Rattle.vm_step.specs.Methods.{code_at}
use Rattle.vm_run.specs.declared.known.Known.{Known}
use Rattle.vm_run.specs.Known.{KnowsAt}
use Rattle.vm_run.proofs.Found.{some-there}
use Rattle.vm_run.proofs.known.fetch.Goals as goal

pub placed-requires-in-Verified-clause-there : goal.placed-requires-in-Verified-clause-there
placed-requires-in-Verified-clause-there c =
    let w = c.args.world.now in
    some-there (code_at w c.args.method) c.args.place
    (subst (λ (known : Known). KnowsAt w known c.args.method c.args.place) c.in-Verified.is c.requires.places)
