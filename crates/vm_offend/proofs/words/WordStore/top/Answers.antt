use Rattle.vm_offend.proofs.Rams.{taken_fits, taken_is}
use Rattle.vm_offend.proofs.words.WordStore.top.Goals as goal

pub returns-clause-fits : goal.returns-clause-fits
returns-clause-fits c = let s = c.args.self.now in taken_fits s.world.now s.ram.now s.heap.now s.counts c.requires.well c.requires.running

pub returns-clause-frame : goal.returns-clause-frame
returns-clause-frame c = let s = c.args.self.now in taken_is s.world.now s.ram.now s.heap.now s.counts c.requires.well c.requires.running
