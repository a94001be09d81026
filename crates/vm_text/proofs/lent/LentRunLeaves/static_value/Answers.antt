use Rattle.vm_text.proofs.Words.{field_of, field_below}
use Rattle.vm_text.proofs.lent.LentRunLeaves.static_value.Goals as goal

pub static_value-requires-clause-field : goal.static_value-requires-clause-field
static_value-requires-clause-field c =
    field_below c.args._world.now c.args.self.now.accepted.now c.args.self.now.heap.now c.args.self.now.statics.now c.args.self.now.machine.counts c.args.n
    c.requires.run c.requires.field

pub returns : goal.returns
returns c =
    field_of c.args._world.now c.args.self.now.accepted.now c.args.self.now.heap.now c.args.self.now.statics.now c.args.self.now.machine.counts c.args.n
    c.static_value.result c.requires.run c.static_value.ensures
