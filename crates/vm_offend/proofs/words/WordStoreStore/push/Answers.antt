use Rattle.std.proofs.Common.{ℕ, ◌<◌, ◌∷◌, length, sym, subst}
use Rattle.vm_store.specs.State.{Frame}
use Rattle.vm_offend.proofs.Rams.{taken_fits, taken_is, put_top, put_laid}
use Rattle.vm_offend.proofs.words.WordStoreStore.push.Goals as goal

pub push-requires-clause-fits : goal.push-requires-clause-fits
push-requires-clause-fits c = let s = c.args.self.now in taken_fits s.world.now s.ram.now s.heap.now s.counts c.requires.well c.requires.running

pub push-requires-clause-room : goal.push-requires-clause-room
push-requires-clause-room c =
    let s = c.args.self.now in
    let Holds : Frame ℕ → Type 0 = λ f. length f.stack < 255 in
    subst Holds (sym (taken_is s.world.now s.ram.now s.heap.now s.counts c.requires.well c.requires.running)) c.requires.room

pub returns-clause-state : goal.returns-clause-state
returns-clause-state c =
    let s = c.args.self.now in
    let change : Frame ℕ → Frame ℕ = λ f. record f { stack = c.args.cell ∷ f.stack } in
    put_top s.world.now s.ram.now s.heap.now s.counts c.requires.well c.requires.running s.statics.now c.push.new.window change c.push.auto.window
    c.push.ensures.frame

pub returns-clause-well : goal.returns-clause-well
returns-clause-well c =
    let s = c.args.self.now in
    put_laid s.world.now s.ram.now s.heap.now s.counts c.requires.well c.requires.running c.push.new.window c.push.auto.window c.push.ensures.fits
