use Rattle.std.proofs.Common.{◌∙◌, rules}
use Rattle.vm_offend.specs.Begun.{IsBegun}
use Rattle.vm_offend.proofs.Beginning.{begun-words}
use Rattle.vm_offend.proofs.Moved.{moved}
use Rattle.vm_offend.proofs.starting.begun.Goals as goal

pub returns : goal.returns
returns c =
    let z = c.begin.new.store in
    moved (IsBegun c.args.world.now c.args.entry c.args.args.now c.of.result) _ _ _ z.ram.now z.heap.now z.statics.now (search rules) (search rules)
    (search rules)
    (begun-words c.args.world.now c.args.entry c.args.args.now c.requires.begins c.starts_erase.ensures c.starts_are_sized.ensures
    c.of.result z.world.now z.counts z.ram.now z.heap.now z.statics.now c.begin.ensures.world (c.of.ensures.counts ∙ c.counts.ensures) c.of.ensures.ending
    c.begin.ensures.well c.begin.ensures.state)
