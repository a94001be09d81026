use Rattle.std.proofs.Common.{◌<◌, IsSomeAnd, Option, sym, subst, arith}
use Rattle.jc_base.specs.declared.record.MethodRec.{MethodRec}
use Rattle.card_verify.proofs.Totals.{cost-served}
use Rattle.card_verify.proofs.Tallies.{unindexed-not, served, accepted-by}
use Rattle.card_verify.proofs.room.serves.Goals as goal

pub returns-in-Some-clause-accepted : goal.returns-in-Some-clause-accepted
returns-in-Some-clause-accepted g c =
    accepted-by c.args.world.now c.args.method c.method-rec.result.now c.verify_indexed.new.regs c.method-rec.ensures.is c.card_laws.ensures.flow
    c.verify_indexed.result c.is_ok.result c.is_ok.ensures.value
    c.verify_indexed.ensures.known c.verify_indexed.ensures.least

pub returns-in-Some-clause-by_index : goal.returns-in-Some-clause-by_index
returns-in-Some-clause-by_index g c =
    served c.args.world.now c.args.method c.method-rec.result.now c.method-rec.ensures.is
    (subst (λ (o : Option MethodRec). IsSomeAnd o (λ m. 0 < m.code_len)) c.method-rec.ensures.is c.requires.code)
    c.in-Some.index (sym c.in-Some.ensures) c.verify_indexed.result c.is_ok.result c.is_ok.ensures.value c.verify_indexed.ensures.typing
    c.verify_indexed.ensures.none

pub returns-in-None-clause-by_index : goal.returns-in-None-clause-by_index
returns-in-None-clause-by_index g c = unindexed-not c.args.world.now c.args.method (sym c.in-None.ensures)

pub returns-in-Some-clause-cost : goal.returns-in-Some-clause-cost
returns-in-Some-clause-cost g c =
    cost-served c.args.world.now c.args.method c.in-Some.index c.args.steps.now c.verify_indexed.new.steps (sym c.in-Some.ensures) c.verify_indexed.ensures.cost

pub returns-in-None-clause-cost : goal.returns-in-None-clause-cost
returns-in-None-clause-cost g c = λ digits short. omega arith
