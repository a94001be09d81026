-- what the machine does is what comes of the run
use Rattle.std.proofs.Common.{◌≡◌, Some, sym, ap, subst, ◌∙◌}
use Rattle.vm_store.specs.Cells.{tagged}
use Rattle.vm_step.specs.Raising.{running}
use Rattle.vm_step.specs.Start.{entry_state}
use Rattle.vm_offend.specs.Begun.{IsBegun}
use Rattle.capcheck_core.specs.Defend.{method_entered}
use Rattle.capcheck_core.specs.Generate.{run_of}
use Rattle.capcheck_core.proofs.Ran.{reached}
use Rattle.capcheck_core.proofs.Generates.{one_run}
use Rattle.capcheck_core.proofs.generating.run_method.Goals as goal

pub returns-clause-run : goal.returns-clause-run
returns-clause-run c =
    let w = c.args.accepted.now in
    let k = c.args.number in
    let number = c.in-Some.entry in
    let m = c.in-Ok.machine in
    let entered : method_entered w (run_of k).entry ≡ Some number
    = sym (c.in-Some.ensures ∙ ap (λ v. method_entered v (run_of k).entry) c.world.ensures.is) in
    let begun : IsBegun w number (run_of k).args m c.start.new.ram c.start.new.heap c.start.new.statics
    = subst (λ args. IsBegun w number args m c.start.new.ram c.start.new.heap c.start.new.statics) c.requires.handed c.in-Ok.ensures.begun in
    let before = running (entry_state tagged w number (run_of k).args) in
    let is = reached w number (run_of k) m c.start.new.ram c.start.new.heap c.start.new.statics begun in
    let follows = c.run.ensures.follows before is begun.words in
    one_run w k number m c.run.new.self c.start.new.ram c.start.new.heap c.start.new.statics c.run.new.ram c.run.new.heap c.run.new.statics c.run.result
    entered begun follows
