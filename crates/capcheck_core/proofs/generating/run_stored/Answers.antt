-- the parts stand for the package that was made, which makes its world
use Rattle.std.proofs.Common.{length, ap, sym, subst, ◌∙◌}
use Rattle.std.specs.Prelude.{Err}
use Rattle.cap_bytes.specs.declared.view.View.{View}
use Rattle.cap_components.specs.Components.{Methods}
use Rattle.cap_gen.specs.Linked.{roles}
use Rattle.cap_package.specs.StandsFor.{StandsFor, HavePackage}
use Rattle.jc_link.specs.World.{LinkTells}
use Rattle.capcheck_core.specs.Generate.{generated}
use Rattle.capcheck_core.proofs.Trials.{have}
use Rattle.capcheck_core.proofs.Generates.{is_new, is_linked}
use Rattle.capcheck_core.proofs.generating.run_stored.Goals as goal

pub agreed_package-made-requires : goal.agreed_package-made-requires
agreed_package-made-requires c = subst HavePackage (sym c.in-Ok.ensures) (have (generated c.args.seed) roles c.args.world.now c.args.parts.now c.requires.made)

pub run_new-requires-clause-made : goal.run_new-requires-clause-made
run_new-requires-clause-made c =
    let made = c.agreed_package-made.result in
    is_new c.args.seed c.args.world.now c.args.parts.now made c.in-Ok-alone.packages c.requires.made
    (subst (λ ps. StandsFor ps made) c.in-Ok.ensures c.agreed_package-made.ensures) c.in-Ok-alone.ensures c.in-Ok-link.new _ c.in-Ok-link.ensures.tells
    (ap (λ (v : View). length v.bytes.now) c.info.ensures ∙ ap (λ (m : Methods). length m.info) c.methods.ensures)

pub unreachable-requires : goal.unreachable-requires
unreachable-requires c =
    let made = c.agreed_package-made.result in
    is_linked c.args.seed c.args.world.now c.args.parts.now made c.in-Ok-alone.packages c.requires.made
    (subst (λ ps. StandsFor ps made) c.in-Ok.ensures c.agreed_package-made.ensures) c.in-Ok-alone.ensures c.in-Err-Fault.field-0-0
    (subst (λ e. LinkTells c.in-Ok-alone.packages roles (Err e)) c.in-Err-Fault.field-0-is c.in-Err-Fault.ensures.tells)
