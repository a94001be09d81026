use Rattle.vm_offend.proofs.Rams.{left_state, left_laid}
use Rattle.vm_offend.proofs.words.WordStoreStore.leave.Goals as goal

pub returns-clause-state : goal.returns-clause-state
returns-clause-state c = let s = c.args.self.now in left_state s.world.now s.ram.now s.heap.now s.counts c.requires.well c.requires.running s.statics.now

pub returns-clause-well : goal.returns-clause-well
returns-clause-well c = let s = c.args.self.now in left_laid s.world.now s.ram.now s.heap.now s.counts c.requires.well c.requires.running
