use Rattle.std.proofs.Common.{length, ap, arith}
use Rattle.card_verify.specs.Verifier.{method}
use Rattle.card_verify.proofs.Nearest.{entry-next, entry-all}
use Rattle.card_verify.proofs.verify.Verifier.entry_from.Goals as goal

pub handlers-preserved : goal.handlers-preserved
handlers-preserved c =
    entry-next c.args.self.now.subject.rec.now.handlers c.as_slice-handler-items.result.now c.args.from c.handlers.handler-index _ c.handlers.best
    c.nearer-best.result c.from.result
    c.as_slice-handler-items.ensures c.handlers-test.true c.from.ensures c.nearer-best.ensures c.handlers.invariant

pub returns : goal.returns
returns c =
    entry-all (method c.args.self.now) c.args.from c.handlers.handler-index c.handlers.best
    (omega (arith, ap length c.as_slice-handler-items.ensures, c.handlers-test.false)) c.handlers.invariant
