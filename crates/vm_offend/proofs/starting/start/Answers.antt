use Rattle.std.proofs.Common.{subst}
use Rattle.jc_base.specs.declared.ty.Ty.TheVariants.{Bottom}
use Rattle.jc_base.specs.World.{Linked}
use Rattle.law_sound.specs.Soundness.{IsFaultFree}
use Rattle.vm_offend.specs.Held.{IsRunOf}
use Rattle.card_verify.proofs.Accepting.{accepted-typed}
use Rattle.vm_offend.proofs.Beginning.{begun-run}
use Rattle.vm_offend.proofs.starting.start.Goals as goal

pub returns-in-Some-clause-fault_free : goal.returns-in-Some-clause-fault_free
returns-in-Some-clause-fault_free c =
    let w = c.world.result.now in
    subst (λ (x : Linked). IsFaultFree x) c.world.ensures.is (c.typed_code_never_fails.ensures.fault_free Bottom (accepted-typed w c.world.ensures.accepted))

pub returns-in-None-clause-run : goal.returns-in-None-clause-run
returns-in-None-clause-run c =
    let w = c.world-in-None.result.now in
    let n = c.begun.new in
    subst (λ (x : Linked). IsRunOf x c.begun.result n.ram n.heap n.statics) c.world-in-None.ensures.is
    (begun-run w c.args.entry c.args.args.now c.begun.ensures.begins c.begun.result n.ram n.heap n.statics c.begun.ensures)

pub returns-in-None-clause-fault_free : goal.returns-in-None-clause-fault_free
returns-in-None-clause-fault_free c =
    let w = c.world.result.now in
    subst (λ (x : Linked). IsFaultFree x) c.world.ensures.is (c.typed_code_never_fails.ensures.fault_free Bottom (accepted-typed w c.world.ensures.accepted))
