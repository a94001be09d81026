use Rattle.std.proofs.Common.{arith}
use Rattle.jc_flow.specs.Visit.{analysed}
use Rattle.jc_flow.proofs.Leading.{goes-same}
use Rattle.jc_flow.proofs.Visits.{goes-on, caught-more, caught-all}
use Rattle.jc_flow.proofs.analysis.Analysis.raise_handlers.Goals as goal

pub handlers-init : goal.handlers-init
handlers-init c =
    record {
      goes = goes-same c.args.self.now.subject.world.now c.requires.analysis.rules.order (analysed c.args.self.now) c.args.table.now c.requires.held;
      caught = λ k d lt. absurd (omega arith);
    }

pub handlers-preserved : goal.handlers-preserved
handlers-preserved c = record {
  goes =
      goes-on c.args.self.now.subject.world.now c.requires.analysis.rules.order (analysed c.args.self.now) c.args.table.now c.handlers.table
      c.raise_handler.new.table c.handlers.invariant.goes c.in_default.ensures.goes;
  caught =
      caught-more c.args.self.now.subject.world.now c.requires.analysis.rules.order (analysed c.args.self.now) c.args.step.place c.args.step.before.now.frame
      c.handlers.table c.raise_handler.new.table c.in_default.ensures.goes c.as_slice-handler-items.result.now c.handlers.handler-index _
      c.handlers-test.true c.handlers.invariant.caught c.in_default.ensures.caught;
}

pub returns-clause-caught : goal.returns-clause-caught
returns-clause-caught c =
    caught-all c.args.self.now.subject.world.now c.requires.analysis.rules.order (analysed c.args.self.now) c.args.step.place c.args.step.before.now.frame
    c.handlers.table c.args.self.now.subject.rec.now.handlers c.as_slice-handler-items.result.now c.handlers.handler-index c.as_slice-handler-items.ensures
    c.handlers-test.false c.handlers.invariant.caught
