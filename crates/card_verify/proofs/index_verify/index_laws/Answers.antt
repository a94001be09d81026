use Rattle.card_verify.proofs.Denying.{indexed-typed, exact-answers, refusal-denies-over}
use Rattle.card_verify.proofs.OneRefusal.{refusal-one-over}
use Rattle.card_verify.proofs.Twice.{raised-takes-two}
use Rattle.card_verify.proofs.index_verify.index_laws.Goals as goal

pub returns-clause-typed : goal.returns-clause-typed
returns-clause-typed c = indexed-typed c.args.world.now

pub returns-clause-exact : goal.returns-clause-exact
returns-clause-exact c = exact-answers c.args.world.now

pub returns-clause-twice : goal.returns-clause-twice
returns-clause-twice c = raised-takes-two c.args.world.now c.rule_laws.ensures

pub returns-clause-denies : goal.returns-clause-denies
returns-clause-denies c =
    refusal-denies-over c.args.world.now (record { rules = c.rule_laws.ensures; falls = c.rule_falls.ensures.card; stays = c.rule_raises.ensures.stays })
    c.card_laws.ensures.refused

pub returns-clause-one : goal.returns-clause-one
returns-clause-one c = refusal-one-over c.args.world.now c.rule_laws.ensures c.first_flaw_is_one.ensures
