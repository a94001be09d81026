-- the libraries make one world with the package that was made
use Rattle.std.proofs.Common.{subst}
use Rattle.std.specs.Prelude.{Err}
use Rattle.cap_package.specs.StandsFor.{StandsFor}
use Rattle.jc_link.specs.World.{LinkTells}
use Rattle.capcheck_core.proofs.Trials.{has_new, never_at_fault, with_made}
use Rattle.capcheck_core.proofs.trying.try_new.Goals as goal

pub run_new-requires-clause-made : goal.run_new-requires-clause-made
run_new-requires-clause-made c =
    let m = c.args.made.now in
    let made = c.agreed_package-last.result in
    let all = with_made m.packages.now m.roles m.world.now m.parts.now c.requires.made made c.in-Ok-with_last.all
    (subst (λ ps. StandsFor ps made) c.in-Ok.ensures c.agreed_package-last.ensures) c.in-Ok-with_last.ensures in
    has_new m.packages.now m.roles m.world.now m.parts.now c.requires.made c.in-Ok-with_last.all c.in-Ok-link.new all
    c.in-Ok-link.ensures.tells

pub unreachable-requires : goal.unreachable-requires
unreachable-requires c =
    let m = c.args.made.now in
    let made = c.agreed_package-last.result in
    let all = with_made m.packages.now m.roles m.world.now m.parts.now c.requires.made made c.in-Ok-with_last.all
    (subst (λ ps. StandsFor ps made) c.in-Ok.ensures c.agreed_package-last.ensures) c.in-Ok-with_last.ensures in
    never_at_fault m.packages.now m.roles m.world.now m.parts.now c.requires.made c.in-Ok-with_last.all c.in-Err-Fault.field-0-0 all
    (subst (λ e. LinkTells c.in-Ok-with_last.all m.roles (Err e)) c.in-Err-Fault.field-0-is c.in-Err-Fault.ensures.tells)
