use Rattle.card_verify.proofs.Answering.{accepted-bare}
use Rattle.std.proofs.Common.{arith}
use Rattle.card_verify.proofs.Tallies.{bare-not}
use Rattle.card_verify.proofs.room.verify_within.Goals as goal

pub returns-then-rec-eq0-clause-accepted : goal.returns-then-rec-eq0-clause-accepted
returns-then-rec-eq0-clause-accepted g c = accepted-bare c.args.world.now c.args.method c.method-rec.result.now c.method-rec.ensures.is c.if-rec-eq0.true

pub returns-then-rec-eq0-clause-by_index : goal.returns-then-rec-eq0-clause-by_index
returns-then-rec-eq0-clause-by_index g c = bare-not c.args.world.now c.args.method c.method-rec.result.now c.method-rec.ensures.is c.if-rec-eq0.true

pub returns-then-rec-eq0-clause-cost : goal.returns-then-rec-eq0-clause-cost
returns-then-rec-eq0-clause-cost g c = λ digits short. omega arith
