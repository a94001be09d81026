use Rattle.std.proofs.Common.{◌+◌, ◌*◌, sum_by, arith}
use Rattle.jc_base.specs.Order.{rises_left}
use Rattle.jc_rules.specs.Apply.{frame_of}
use Rattle.card_verify.specs.Counted.{instruction_count}
use Rattle.card_verify.specs.Verifier.{method, world_of}
use Rattle.card_verify.proofs.Costs.{pass-paid, last-pass}
use Rattle.card_verify.proofs.Passing.{raised, settled, finished, one-more-pass, passes-counted, way-begun, refused-on-way}
use Rattle.card_verify.proofs.verify.Verifier.settle.Goals as goal

pub passes-init : goal.passes-init
passes-init g c = record {
  way = (0, way-begun c.args.self.now (g.M.Marks.marks c.args.marks.now) c.args.regs.now c.args.stack.now c.args.steps.now c.requires.begun);
  cost = λ most takes. omega arith;
}

pub pass-requires-clause-begun : goal.pass-requires-clause-begun
pass-requires-clause-begun g c =
    let way = c.passes.invariant.way in
    (way.0 * instruction_count (method c.args.self.now), way.1.begun)

pub passes-preserved : goal.passes-preserved
passes-preserved g c =
    let v = c.args.self.now in
    let marked = g.M.Marks.marks c.args.marks.now in
    let way = c.passes.invariant.way in
    let less = raised v marked c.passes.regs c.pass.new.regs c.in-Ok.rose c.in-Ok.ensures.done c.if-not-rose.false in
    record {
      way = (
        way.0 + 1,
        one-more-pass v marked c.requires.verifier c.in-Ok.ensures.begins way.0 c.passes.regs c.passes.stack c.pass.new.regs c.pass.new.stack
            c.in-Ok.ensures.again c.args.steps.now c.passes.steps c.pass.new.steps way.1 c.in-Ok.ensures.counted less,
      );
      cost = λ most takes.
          let unit = instruction_count (method v) * (most + 1) in
          omega (
            arith,
            c.passes.invariant.cost most takes,
            c.pass.ensures.cost most takes,
            pass-paid (sum_by (rises_left (world_of v).classes) c.pass.new.regs) (sum_by (rises_left (world_of v).classes) c.passes.regs) unit less,
          );
    }

pub returns-in-Err-clause-refused : goal.returns-in-Err-clause-refused
returns-in-Err-clause-refused g c =
    let v = c.args.self.now in
    let way = c.passes.invariant.way in
    refused-on-way v (g.M.Marks.marks c.args.marks.now) way.0 c.passes.regs c.passes.stack c.in-Err.fault
    (frame_of c.pass.new.regs c.pass.new.stack c.in-Err.fault.depth) c.args.steps.now c.passes.steps c.pass.new.steps way.1
    (c.in-Err.ensures.refused (way.0 * instruction_count (method v)) way.1.begun)

pub returns-in-Err-clause-cost : goal.returns-in-Err-clause-cost
returns-in-Err-clause-cost g c = λ most takes.
    let v = c.args.self.now in
    omega (
      arith,
      c.passes.invariant.cost most takes,
      c.pass.ensures.cost most takes,
      last-pass (sum_by (rises_left (world_of v).classes) c.passes.regs)
          (instruction_count (method v) * (most + 1)),
    )

pub returns-then-not-rose-clause-finished : goal.returns-then-not-rose-clause-finished
returns-then-not-rose-clause-finished g c =
    let v = c.args.self.now in
    let marked = g.M.Marks.marks c.args.marks.now in
    let way = c.passes.invariant.way in
    finished v marked (way.0 * instruction_count (method v)) c.passes.regs c.pass.new.regs c.passes.stack way.1.begun
    (settled v marked c.passes.regs c.pass.new.regs c.in-Ok.rose c.in-Ok.ensures.done c.if-not-rose.true)

pub returns-then-not-rose-clause-counted : goal.returns-then-not-rose-clause-counted
returns-then-not-rose-clause-counted g c =
    let v = c.args.self.now in
    let marked = g.M.Marks.marks c.args.marks.now in
    let way = c.passes.invariant.way in
    passes-counted v marked c.requires.verifier c.in-Ok.ensures.begins way.0 c.passes.regs c.passes.stack c.pass.new.regs c.pass.new.stack
    c.in-Ok.ensures.again c.args.steps.now c.passes.steps c.pass.new.steps way.1 c.in-Ok.ensures.counted
    (settled v marked c.passes.regs c.pass.new.regs c.in-Ok.rose c.in-Ok.ensures.done c.if-not-rose.true)

pub returns-then-not-rose-clause-cost : goal.returns-then-not-rose-clause-cost
returns-then-not-rose-clause-cost g c = λ most takes.
    let v = c.args.self.now in
    omega (
      arith,
      c.passes.invariant.cost most takes,
      c.pass.ensures.cost most takes,
      last-pass (sum_by (rises_left (world_of v).classes) c.passes.regs)
          (instruction_count (method v) * (most + 1)),
    )
