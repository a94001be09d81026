use Rattle.vm_text.proofs.Words.{number_of}
use Rattle.vm_text.proofs.lent.LentRunLeaves.array_value.Goals as goal

pub returns : goal.returns
returns c =
    number_of c.args._world.now c.args.self.now.accepted.now c.args.self.now.heap.now c.args.self.now.statics.now c.args.self.now.machine.counts
    c.args.handle c.args.element c.array_value.result c.requires c.array_value.ensures
