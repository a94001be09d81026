use Rattle.std.proofs.Common.{subst}
use Rattle.jc_base.specs.World.{Linked}
use Rattle.vm_store.specs.declared.cell.Cell.{Cell}
use Rattle.vm_step.specs.Raising.{Outcome}
use Rattle.vm_offend.specs.Held.{IsOutcomeOfRun, AreWordsOf, Follows}
use Rattle.vm_offend.proofs.Following.{ended-follows}
use Rattle.vm_offend.proofs.machine.Machine.run.Goals as goal

pub returns-in-Some-clause-follows : goal.returns-in-Some-clause-follows
returns-in-Some-clause-follows c =
    λ o reached held. ended-follows c.args.accepted.now c.args.self.now c.args.ram.now c.args.heap.now c.args.statics.now c.args.budget c.in-Some.ending
    c.in-Some.is o held

pub returns-in-None-clause-follows : goal.returns-in-None-clause-follows
returns-in-None-clause-follows c =
    let Goes : Linked → Type 0 = λ w. (o : Outcome Cell) → IsOutcomeOfRun w o
    → AreWordsOf w c.args.self.now c.args.ram.now c.args.heap.now c.args.statics.now o
    → Follows w c.args.budget o c.go_on.new.self c.go_on.new.ram c.go_on.new.heap c.go_on.new.statics c.go_on.result in
    subst Goes c.world.ensures.is c.go_on.ensures.follows
