use Rattle.std.proofs.Common.{◌≡◌, ◌≤◌, ◌*◌}
use Rattle.law_chains.specs.FrameWords.{live_words}
use Rattle.vm_offend.specs.Words.{frames_in}
use Rattle.vm_offend.proofs.machine.live_words.Given as goal

abbrev pub invariant-frames : goal.invariant-frames
invariant-frames l = record {
  so_far : l.words ≡ live_words l.world (frames_in l.world.methods l.ram l.n);
  most : l.words ≤ 768 * l.n;
}
