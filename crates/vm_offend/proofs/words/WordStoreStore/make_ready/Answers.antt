use Rattle.std.proofs.Common.{ℕ, List, ap, sym, ◌∙◌}
use Rattle.std.proofs.lemmas.List.{map-id}
use Rattle.vm_store.specs.State.{State, first_frame, with_stack}
use Rattle.vm_offend.specs.Words.{frames_in, words_state}
use Rattle.vm_offend.proofs.Rams.{same_state}
use Rattle.vm_offend.proofs.words.WordStoreStore.make_ready.Goals as goal

pub returns-clause-state : goal.returns-clause-state
returns-clause-state c =
    let s = c.args.self.now in
    let put : List ℕ → State ℕ = with_stack (words_state s.world.now.methods s.ram.now s.heap.now s.statics.now s.counts) in
    same_state s.world.now s.ram.now s.heap.now s.counts c.requires.well c.requires.running s.statics.now
    ∙ ap put (sym (map-id (first_frame (frames_in s.world.now.methods s.ram.now s.counts.frames)).stack))
