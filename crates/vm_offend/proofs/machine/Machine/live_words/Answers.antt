use Rattle.std.proofs.Common.{◌≡◌, sym, ◌∙◌, subst}
use Rattle.jc_base.specs.World.{Linked}
use Rattle.law_chains.specs.FrameWords.{live_words}
use Rattle.vm_offend.specs.Words.{frames_in}
use Rattle.vm_offend.proofs.Living.{live-words-of}
use Rattle.vm_offend.proofs.machine.Machine.live_words.Goals as goal

pub returns : goal.returns
returns c = λ heap statics o are.
    sym (live-words-of c.args.accepted.now c.args.self.now c.args.ram.now heap statics o are)
    ∙ sym (subst (λ (w : Linked). c.live_words.result ≡ live_words w (frames_in w.methods c.args.ram.now c.args.self.now.counts.frames)) c.world.ensures.is
    c.live_words.ensures)
