use Rattle.std.proofs.Common.{ℕ, ◌<◌, length, set, sym, subst}
use Rattle.vm_store.specs.State.{Frame}
use Rattle.vm_offend.proofs.Rams.{taken_fits, taken_is, put_top, put_laid}
use Rattle.vm_offend.proofs.words.WordStoreStore.set_register.Goals as goal

pub set_register-requires-clause-fits : goal.set_register-requires-clause-fits
set_register-requires-clause-fits c = let s = c.args.self.now in taken_fits s.world.now s.ram.now s.heap.now s.counts c.requires.well c.requires.running

pub set_register-requires-clause-there : goal.set_register-requires-clause-there
set_register-requires-clause-there c =
    let s = c.args.self.now in
    let Holds : Frame ℕ → Type 0 = λ f. c.args.x < length f.registers in
    subst Holds (sym (taken_is s.world.now s.ram.now s.heap.now s.counts c.requires.well c.requires.running)) c.requires.there

pub returns-clause-state : goal.returns-clause-state
returns-clause-state c =
    let s = c.args.self.now in
    let change : Frame ℕ → Frame ℕ = λ f. record f { registers = set f.registers c.args.x c.args.cell } in
    put_top s.world.now s.ram.now s.heap.now s.counts c.requires.well c.requires.running s.statics.now c.set_register.new.window change
    c.set_register.auto.window c.set_register.ensures.frame

pub returns-clause-well : goal.returns-clause-well
returns-clause-well c =
    let s = c.args.self.now in
    put_laid s.world.now s.ram.now s.heap.now s.counts c.requires.well c.requires.running c.set_register.new.window c.set_register.auto.window
    c.set_register.ensures.fits
