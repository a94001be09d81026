use Rattle.std.proofs.Common.{sym}
use Rattle.vm_offend.proofs.Rams.{length-frames_in}
use Rattle.vm_offend.proofs.words.WordStoreStore.frame_count.Goals as goal

pub returns : goal.returns
returns c = let s = c.args.self.now in sym (length-frames_in s.world.now.methods s.ram.now s.counts.frames)
