use Rattle.std.proofs.Common.{ℕ}
use Rattle.vm_store.specs.State.{Frame}
use Rattle.vm_offend.proofs.Rams.{taken_fits, put_top, put_laid}
use Rattle.vm_offend.proofs.words.WordStoreStore.set_place.Goals as goal

pub set_place-requires-clause-fits : goal.set_place-requires-clause-fits
set_place-requires-clause-fits c = let s = c.args.self.now in taken_fits s.world.now s.ram.now s.heap.now s.counts c.requires.well c.requires.running

pub returns-clause-state : goal.returns-clause-state
returns-clause-state c =
    let s = c.args.self.now in
    let change : Frame ℕ → Frame ℕ = λ f. record f { place = c.args.place } in
    put_top s.world.now s.ram.now s.heap.now s.counts c.requires.well c.requires.running s.statics.now c.set_place.new.window change c.set_place.auto.window
    c.set_place.ensures.frame

pub returns-clause-well : goal.returns-clause-well
returns-clause-well c =
    let s = c.args.self.now in
    put_laid s.world.now s.ram.now s.heap.now s.counts c.requires.well c.requires.running c.set_place.new.window c.set_place.auto.window
    c.set_place.ensures.fits
