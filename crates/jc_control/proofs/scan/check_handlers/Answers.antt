use Rattle.std.proofs.Common.{◌<◌, ap, length, get_or, arith, subst, List, All, rules}
use Rattle.std.proofs.lemmas.List.{take_all}
use Rattle.std.proofs.lemmas.List.Elements.{All-more}
use Rattle.jc_base.specs.declared.record.Handler.{Handler}
use Rattle.jc_control.specs.WellFormed.{IsHandlerOf}
use Rattle.jc_control.proofs.scan.check_handlers.Goals as goal

pub handlers-preserved : goal.handlers-preserved
handlers-preserved c =
    let code = c.args.code.bytes.now in
    let same = c.as_slice-handler-items.ensures in
    let inside : c.handlers.number < length c.args.handlers.now = omega (arith, ap length same, c.handlers-test.true) in
    let here = subst (λ (hs : List Handler). IsHandlerOf code (get_or hs c.handlers.number _)) same (c.if-not-is_formed.ensures.0 (search rules)) in
    All-more (IsHandlerOf code) c.args.handlers.now c.handlers.number _ inside c.handlers.invariant here

pub returns-clause-formed : goal.returns-clause-formed
returns-clause-formed c =
    let same = c.as_slice-handler-items.ensures in
    subst (All (IsHandlerOf c.args.code.bytes.now)) (take_all c.handlers.number c.args.handlers.now (omega (arith, ap length same, c.handlers-test.false)))
    c.handlers.invariant
