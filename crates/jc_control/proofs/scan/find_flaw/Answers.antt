use Rattle.std.proofs.Common.{rules}
use Rattle.jc_control.specs.Subject.{method}
use Rattle.jc_control.proofs.FirstFound.{stray-first, stop-first, handler-told}
use Rattle.jc_control.proofs.scan.find_flaw.Goals as goal

pub returns-in_err-end-clause-flawed : goal.returns-in_err-end-clause-flawed
returns-in_err-end-clause-flawed c =
    let h = stray-first (method c.args.subject) c.args.subject.listed c.in_err-end.field-0.0 c.in_err-end.ensures.flawed in
    search (rules, h)

pub returns-in_err-check_end-clause-flawed : goal.returns-in_err-check_end-clause-flawed
returns-in_err-check_end-clause-flawed c =
    let h = stop-first (method c.args.subject) c.in_err-check_end.field-0.0 c.in_ok-end.ensures.formed c.in_err-check_end.ensures.flawed in
    search (rules, h)

pub returns-clause-flawed : goal.returns-clause-flawed
returns-clause-flawed c =
    handler-told (method c.args.subject) c.check_handlers.result c.in_ok-end.ensures.formed c.in_ok-check_end.ensures.formed c.check_handlers.ensures.flawed
