use Rattle.std.proofs.Common.{Some}
use Rattle.jc_control.specs.Subject.{method}
use Rattle.jc_rules.specs.Typing.{state_at}
use Rattle.jc_flow.proofs.Answered.{none-unformed, none-failed, unset-of}
use Rattle.jc_flow.proofs.inference.infer.Goals as goal

pub returns-in-Err-clause-none : goal.returns-in-Err-clause-none
returns-in-Err-clause-none c =
    let s = c.of-subject.result in
    rw (c.of-subject.ensures.is, ← c.of-subject.ensures.world)
    (none-unformed c.flaws_decide.ensures s.world.now (Some (method s)) c.in-Err.end c.unformed.result c.unformed.ensures c.in-Err.ensures.flawed)

pub settled-requires : goal.settled-requires
settled-requires c = record { rules = c.rule_laws.ensures; control = c.in-Ok.ensures.formed }

pub returns-clause-none : goal.returns-clause-none
returns-clause-none c =
    let s = c.of-subject.result in
    rw (c.of-subject.ensures.is, ← c.of-subject.ensures.world)
    (none-failed s.world.now c.rule_laws.ensures (method s) s.there c.in-Err-settled.end c.in-Err-settled.ensures.failed)

pub returns-in-Ok-settled-clause-unset : goal.returns-in-Ok-settled-clause-unset
returns-in-Ok-settled-clause-unset c =
    let s = c.of-subject.result in
    rw (c.of-subject.ensures.is, ← c.of-subject.ensures.world)
    (unset-of s.world.now c.typing_laws.ensures.unset (method s) (state_at c.in-Ok-settled.table.states) c.in-Ok-settled.ensures.typing)
