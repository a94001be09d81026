use Rattle.std.proofs.Common.{ℕ, ◌≤◌, length, drop, sym, subst}
use Rattle.vm_store.specs.State.{Frame}
use Rattle.vm_offend.proofs.Rams.{taken_fits, taken_is, put_top, put_laid}
use Rattle.vm_offend.proofs.words.WordStoreStore.discard.Goals as goal

pub discard-requires-clause-fits : goal.discard-requires-clause-fits
discard-requires-clause-fits c = let s = c.args.self.now in taken_fits s.world.now s.ram.now s.heap.now s.counts c.requires.well c.requires.running

pub discard-requires-clause-there : goal.discard-requires-clause-there
discard-requires-clause-there c =
    let s = c.args.self.now in
    let Holds : Frame ℕ → Type 0 = λ f. c.args.count ≤ length f.stack in
    subst Holds (sym (taken_is s.world.now s.ram.now s.heap.now s.counts c.requires.well c.requires.running)) c.requires.there

pub returns-clause-state : goal.returns-clause-state
returns-clause-state c =
    let s = c.args.self.now in
    let change : Frame ℕ → Frame ℕ = λ f. record f { stack = drop c.args.count f.stack } in
    put_top s.world.now s.ram.now s.heap.now s.counts c.requires.well c.requires.running s.statics.now c.discard.new.window change c.discard.auto.window
    c.discard.ensures.frame

pub returns-clause-well : goal.returns-clause-well
returns-clause-well c =
    let s = c.args.self.now in
    put_laid s.world.now s.ram.now s.heap.now s.counts c.requires.well c.requires.running c.discard.new.window c.discard.auto.window c.discard.ensures.fits
