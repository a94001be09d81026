-- the words that the run leaves are those of the state that it comes to
use Rattle.std.proofs.Common.{sym, subst}
use Rattle.vm_store.specs.Cells.{tagged}
use Rattle.vm_step.specs.Raising.{running}
use Rattle.vm_step.specs.Start.{entry_state}
use Rattle.vm_text.specs.LikeTexts.{TextsAreAlike}
use Rattle.capcheck_core.specs.Run.{bounded_request}
use Rattle.capcheck_core.proofs.Ran.{reached, lent_run, left, lent_in, written_in}
use Rattle.capcheck_core.proofs.running.go_on.Goals as goal

pub write_run-requires-clause-run : goal.write_run-requires-clause-run
write_run-requires-clause-run c =
    let w = c.args.accepted.now in
    let r = bounded_request c.args.run.now in
    let before = running (entry_state tagged w c.args.number r.args) in
    let is = reached w c.args.number r c.args.machine c.args.ram.now c.args.heap.now c.args.statics.now c.requires.begun in
    let follows = c.run-ending.ensures.follows before is c.requires.begun.words in
    lent_in w c.world-world.result.now c.run-ending.new.heap c.run-ending.new.statics c.run-ending.new.self.counts (sym c.world-world.ensures.is)
    (lent_run w c.run-ending.new.self c.run-ending.new.ram c.run-ending.new.heap c.run-ending.new.statics follows.after follows.words)

pub returns : goal.returns
returns c =
    let w = c.args.accepted.now in
    let r = bounded_request c.args.run.now in
    let before = running (entry_state tagged w c.args.number r.args) in
    let is = reached w c.args.number r c.args.machine c.args.ram.now c.args.heap.now c.args.statics.now c.requires.begun in
    let follows = c.run-ending.ensures.follows before is c.requires.begun.words in
    left w c.args.number r c.args.machine c.args.ram.now c.args.heap.now c.args.statics.now c.args.text.now c.write_run.new.room c.run-ending.result
    c.requires.entered c.requires.begun c.run-ending.new.self c.run-ending.new.ram c.run-ending.new.heap c.run-ending.new.statics follows
    (subst TextsAreAlike c.world-world.ensures.is c.texts_are_alike.ensures) c.requires.empty
    (written_in w c.world-world.result.now c.run-ending.new.heap c.run-ending.new.statics c.run-ending.new.self.counts c.run-ending.result c.args.text.now
    c.write_run.new.room
    c.world-world.ensures.is c.write_run.ensures)
