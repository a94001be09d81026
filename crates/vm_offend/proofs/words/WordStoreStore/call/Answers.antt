use Rattle.std.proofs.Common.{ℕ, ◌<◌, ◌≤◌, List, length, ap, sym, ◌∙◌, subst, arith}
use Rattle.jc_base.specs.World.{Linked}
use Rattle.vm_store.specs.Cells.{words}
use Rattle.vm_store.specs.State.{Frame, State, register_count, with_call}
use Rattle.vm_offend.specs.Words.{words_state}
use Rattle.vm_offend.proofs.Rams.{length-frames_in, next_reach, some}
use Rattle.vm_offend.proofs.words.WordStoreStore.call.Goals as goal

pub call-requires-clause-reach : goal.call-requires-clause-reach
call-requires-clause-reach c = let s = c.args.self.now in next_reach s.world.now s.ram.now s.heap.now s.counts c.requires.well c.requires.room

pub call-requires-clause-running : goal.call-requires-clause-running
call-requires-clause-running c = let s = c.args.self.now in some s.world.now s.ram.now s.heap.now s.counts c.requires.well c.requires.running

pub call-requires-clause-known : goal.call-requires-clause-known
call-requires-clause-known c =
    let Known : Linked → Type 0 = λ w. c.args.method < length w.methods in
    subst Known (sym c.requires.world) c.requires.known

pub call-requires-clause-registers : goal.call-requires-clause-registers
call-requires-clause-registers c =
    let Fit : Linked → Type 0 = λ w. c.args.count ≤ register_count w.methods c.args.method in
    subst Fit (sym c.requires.world) c.requires.registers

pub returns-clause-state : goal.returns-clause-state
returns-clause-state c =
    let s = c.args.self.now in
    let held : State ℕ = words_state s.world.now.methods s.ram.now s.heap.now s.statics.now s.counts in
    let framed : List (Frame ℕ) → State ℕ = λ fs. record held { frames = fs } in
    let called : Linked → State ℕ = λ w. with_call words w.methods held c.args.method c.args.count in
    ap framed c.call.ensures.frames ∙ ap called c.requires.world

pub returns-clause-well : goal.returns-clause-well
returns-clause-well c =
    let s = c.args.self.now in let laid = c.requires.well in
    record {
      ram_length = c.call.auto.ram ∙ laid.ram_length;
      heap_length = laid.heap_length;
      some_frames = omega (arith, c.requires.room, length-frames_in s.world.now.methods s.ram.now s.counts.frames);
      some_objects = laid.some_objects;
      some_cells = laid.some_cells;
      windows = c.call.ensures.fit;
      laid = laid.laid;
      kinds = laid.kinds;
    }
