use Rattle.std.proofs.Common.{ℕ, ◌≤◌, length, sym, subst}
use Rattle.vm_store.specs.State.{Frame, rotated}
use Rattle.vm_offend.proofs.Rams.{taken_fits, taken_is, put_top, put_laid}
use Rattle.vm_offend.proofs.words.WordStoreStore.rotate.Goals as goal

pub rotate-requires-clause-fits : goal.rotate-requires-clause-fits
rotate-requires-clause-fits c = let s = c.args.self.now in taken_fits s.world.now s.ram.now s.heap.now s.counts c.requires.well c.requires.running

pub rotate-requires-clause-there : goal.rotate-requires-clause-there
rotate-requires-clause-there c =
    let s = c.args.self.now in
    let Holds : Frame ℕ → Type 0 = λ f. c.args.count ≤ length f.stack in
    subst Holds (sym (taken_is s.world.now s.ram.now s.heap.now s.counts c.requires.well c.requires.running)) c.requires.there

pub returns-clause-state : goal.returns-clause-state
returns-clause-state c =
    let s = c.args.self.now in
    let change : Frame ℕ → Frame ℕ = λ f. record f { stack = rotated c.args.count c.args.by f.stack } in
    put_top s.world.now s.ram.now s.heap.now s.counts c.requires.well c.requires.running s.statics.now c.rotate.new.window change c.rotate.auto.window
    c.rotate.ensures.frame

pub returns-clause-well : goal.returns-clause-well
returns-clause-well c =
    let s = c.args.self.now in
    put_laid s.world.now s.ram.now s.heap.now s.counts c.requires.well c.requires.running c.rotate.new.window c.rotate.auto.window c.rotate.ensures.fits
