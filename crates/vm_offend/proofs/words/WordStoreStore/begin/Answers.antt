use Rattle.std.proofs.Common.{ℕ, ◌<◌, ◌∷◌, [], length, ap, sym, ◌∙◌, subst}
use Rattle.jc_base.specs.World.{Linked}
use Rattle.vm_store.specs.Cells.{words}
use Rattle.vm_store.specs.State.{State, entered}
use Rattle.vm_offend.specs.Words.{words_state}
use Rattle.vm_offend.proofs.Rams.{next_state, next_laid}
use Rattle.vm_offend.proofs.words.WordStoreStore.begin.Goals as goal

pub enter-requires-clause-known : goal.enter-requires-clause-known
enter-requires-clause-known c =
    let Known : Linked → Type 0 = λ w. c.args.method < length w.methods in
    subst Known (sym c.requires.world) c.requires.known

pub returns-clause-state : goal.returns-clause-state
returns-clause-state c =
    let s = c.args.self.now in
    let held : State ℕ = words_state s.world.now.methods s.ram.now s.heap.now s.statics.now s.counts in
    let begun : Linked → State ℕ = λ w. record held { frames = entered words w.methods c.args.method [] ∷ held.frames } in
    next_state s.world.now s.ram.now s.heap.now s.counts c.requires.well c.requires.room s.statics.now c.enter.new.window _ c.enter.auto.window
    c.enter.ensures.frame
    ∙ ap begun c.requires.world

pub returns-clause-well : goal.returns-clause-well
returns-clause-well c =
    let s = c.args.self.now in
    next_laid s.world.now s.ram.now s.heap.now s.counts c.requires.well c.requires.room c.enter.new.window c.enter.auto.window c.enter.ensures.fits
