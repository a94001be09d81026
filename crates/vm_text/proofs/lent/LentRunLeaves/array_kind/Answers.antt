use Rattle.vm_text.proofs.Words.{kind_of}
use Rattle.vm_text.proofs.lent.LentRunLeaves.array_kind.Goals as goal

pub returns : goal.returns
returns c =
    kind_of c.args._world.now c.args.self.now.accepted.now c.args.self.now.heap.now c.args.self.now.statics.now c.args.self.now.machine.counts c.args.handle
    c.array_kind.result c.requires c.array_kind.ensures
