use Rattle.std.proofs.Common.{◌<◌, ◌≤◌, length, get_or, ap, arith, rules, All, List, subst}
use Rattle.std.proofs.lemmas.List.{take_all}
use Rattle.std.proofs.lemmas.List.Elements.{All-more}
use Rattle.jc_base.specs.declared.record.Handler.{Handler}
use Rattle.jc_control.specs.WellFormed.{IsHandlerOf}
use Rattle.card_verify.proofs.scan.is_rest_formed.Goals as goal

pub handlers-preserved : goal.handlers-preserved
handlers-preserved c =
    let code = c.args.subject.code.bytes.now in
    let handlers = c.args.subject.rec.now.handlers in
    let same = c.as_slice-handler-items.ensures in
    let inside : c.handlers.handler-index < length handlers = omega (arith, ap length same, c.handlers-test.true) in
    let here = subst (λ (hs : List Handler). IsHandlerOf code (get_or hs c.handlers.handler-index _)) same (c.if-not-is_formed.ensures.0 (search rules)) in
    All-more (IsHandlerOf code) handlers c.handlers.handler-index _ inside c.handlers.invariant here

pub returns-clause-handlers : goal.returns-clause-handlers
returns-clause-handlers c =
    let handlers = c.args.subject.rec.now.handlers in
    let all : length handlers ≤ c.handlers.handler-index = omega (arith, ap length c.as_slice-handler-items.ensures, c.handlers-test.false) in
    λ yes. subst (All (IsHandlerOf c.args.subject.code.bytes.now)) (take_all c.handlers.handler-index handlers all) c.handlers.invariant
