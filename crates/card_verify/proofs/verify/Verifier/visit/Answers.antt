use Rattle.std.proofs.Common.{◌∙◌, arith}
use Rattle.jc_rules.specs.Stack.{cells}
use Rattle.card_verify.proofs.Costs.{answered-ok}
use Rattle.card_verify.proofs.Searching.{stop-paid, visit-paid}
use Rattle.card_verify.proofs.Walking.{known-here}
use Rattle.card_verify.proofs.Stepping.{landed-suits, landed-arrives, stopped-landing, visited, stopped}
use Rattle.card_verify.proofs.verify.Verifier.visit.Goals as goal

pub step-requires-clause-slices : goal.step-requires-clause-slices
step-requires-clause-slices g c =
    record { registers = c.requires.coming.1.slices.registers; cells = c.land.auto.stack ∙ c.requires.coming.1.slices.cells }

pub step-requires-clause-known : goal.step-requires-clause-known
step-requires-clause-known g c =
    let v = c.args.self.now in
    let marked = g.M.Marks.marks c.args.marks.now in
    let given = cells c.land.new.stack c.in-Ok.depth in
    let k = known-here v marked c.requires.verifier c.args.placed c.requires.stands c.requires.coming.0 c.args.arrival c.args.regs.now c.args.stack.now
    given c.requires.coming.1
    (landed-arrives v marked c.requires.verifier c.args.placed c.args.arrival c.moved.result.from c.moved.ensures.from c.args.regs.now c.args.stack.now
    given c.in-Ok.ensures.landed) in
    (k.regs, k.stack)

pub step-requires-clause-suits : goal.step-requires-clause-suits
step-requires-clause-suits g c =
    landed-suits c.args.self.now (g.M.Marks.marks c.args.marks.now) c.requires.verifier c.args.placed c.args.arrival c.moved.result.from
    c.moved.ensures.from c.args.regs.now c.args.stack.now (cells c.land.new.stack c.in-Ok.depth) c.in-Ok.ensures.landed

pub returns-in-Err-clause-stopped : goal.returns-in-Err-clause-stopped
returns-in-Err-clause-stopped g c =
    stopped-landing c.args.self.now (g.M.Marks.marks c.args.marks.now) c.requires.verifier c.args.placed c.args.arrival c.moved.result.from
    c.moved.ensures.from c.args.regs.now c.args.stack.now c.land.new.stack c.in-Err.fault c.in-Err.ensures.place c.in-Err.ensures.wrong

pub returns-in-Err-clause-cost : goal.returns-in-Err-clause-cost
returns-in-Err-clause-cost g c = λ most takes.
    stop-paid c.args.arrival c.args.steps.now c.moved.new.steps c.land.new.steps most c.left.result c.left.ensures c.moved.ensures.still
    (c.moved.ensures.cost most takes) c.land.ensures.still (c.land.ensures.cost most takes)

pub returns-clause-passed : goal.returns-clause-passed
returns-clause-passed g c =
    visited c.args.self.now (g.M.Marks.marks c.args.marks.now) c.requires.verifier c.args.placed c.args.arrival c.moved.result.from c.moved.ensures.from
    c.args.regs.now c.args.stack.now
    (cells c.land.new.stack c.in-Ok.depth) c.step.new.regs c.step.new.stack c.in-Ok.ensures.landed c.step.result c.step.ensures.passed

pub returns-clause-stopped : goal.returns-clause-stopped
returns-clause-stopped g c =
    stopped c.args.self.now (g.M.Marks.marks c.args.marks.now) c.requires.verifier c.args.placed c.args.arrival c.moved.result.from c.moved.ensures.from
    c.args.regs.now c.args.stack.now
    (cells c.land.new.stack c.in-Ok.depth) c.step.new.regs c.step.new.stack c.in-Ok.ensures.landed c.step.result c.step.ensures.fails

pub returns-clause-cost : goal.returns-clause-cost
returns-clause-cost g c = λ most takes.
    visit-paid c.args.arrival c.args.steps.now c.moved.new.steps c.land.new.steps c.step.new.steps most c.left.result c.left.ensures c.moved.ensures.still
    (c.moved.ensures.cost most takes) c.land.ensures.still (c.land.ensures.cost most takes) c.step.ensures.one

pub returns-clause-counted : goal.returns-clause-counted
returns-clause-counted g c = answered-ok c.step.result (omega (arith, c.moved.ensures.forward, c.land.ensures.forward, c.step.ensures.one))

pub returns-clause-forward : goal.returns-clause-forward
returns-clause-forward g c = omega (arith, c.moved.ensures.forward, c.land.ensures.forward, c.step.ensures.one)
