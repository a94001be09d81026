use Rattle.jc_control.specs.Method.{method_in}
use Rattle.link_tests.proofs.Walked.{three-passes}
use Rattle.link_tests.proofs.counting.takes_three_passes.Goals as goal

pub returns-in-Ok : goal.returns-in-Ok
returns-in-Ok g c = λ t.
    three-passes c.args.world.now (method_in c.args.world.now c.args.method) c.args.index.now c.verify_indexed.new.regs c.passes_once.new.regs
    c.args.steps.now c.verify_indexed.new.steps c.rule_laws.ensures c.requires.alone (c.differ.ensures t) c.in-Ok.ensures.known
    c.in-Ok.ensures.counted (c.passes_once.ensures c.if-not-passes_once.false)
