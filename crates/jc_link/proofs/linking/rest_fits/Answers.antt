use Rattle.std.proofs.Common.{refl}
use Rattle.std.proofs.lemmas.Result.{err_from_is_err_and}
use Rattle.jc_link.proofs.Steps.{count_known, throwable_known, roles_known}
use Rattle.jc_link.proofs.Asked.{asked, catches_none, arrays_none, catches_first, arrays_first, roles_first, rest_empty}
use Rattle.jc_link.proofs.linking.rest_fits.Goals as goal

pub handlers_fit-requires-clause-count : goal.handlers_fit-requires-clause-count
handlers_fit-requires-clause-count c =
    count_known c.args.names.now.packages c.args.names.now.roles c.args.names.now c.requires.names c.args.classes.now c.requires.table

pub handlers_fit-requires-clause-throwable : goal.handlers_fit-requires-clause-throwable
handlers_fit-requires-clause-throwable c =
    throwable_known c.args.names.now.packages c.args.names.now.roles c.args.names.now c.requires.names c.args.classes.now c.requires.table

pub roles_fit-requires-clause-known : goal.roles_fit-requires-clause-known
roles_fit-requires-clause-known c =
    roles_known c.args.names.now.packages c.args.names.now.roles c.args.names.now c.requires.names c.args.classes.now c.requires.table

pub returns-in_err-handlers_fit-clause-first : goal.returns-in_err-handlers_fit-clause-first
returns-in_err-handlers_fit-clause-first c =
    let n = c.args.names.now in
    let qs = c.packages-packages.result.now in
    let t = c.args.classes.now in
    let a = asked n qs t n.methods c.requires.names c.requires.table c.packages-packages.ensures.is refl in
    let p = err_from_is_err_and c.from_residual.result c.from_residual.ensures.1 in
    rw (p.1, p.2) (catches_first n.packages n.roles qs t n.methods a c.in_err-handlers_fit.field-0.0 c.in_err-handlers_fit.ensures)

pub returns-in_err-arrays_fit-clause-first : goal.returns-in_err-arrays_fit-clause-first
returns-in_err-arrays_fit-clause-first c =
    let n = c.args.names.now in
    let qs = c.packages-packages.result.now in
    let t = c.args.classes.now in
    let a = asked n qs t n.methods c.requires.names c.requires.table c.packages-packages.ensures.is refl in
    let p = err_from_is_err_and c.from_residual-in_err-arrays_fit.result c.from_residual-in_err-arrays_fit.ensures.1 in
    rw (p.1, p.2)
    (arrays_first n.packages n.roles qs t n.methods a c.in_err-arrays_fit.field-0.0
    (catches_none n.packages n.roles qs t n.methods a _ c.in_ok-handlers_fit.ensures) c.in_err-arrays_fit.ensures.is)

pub returns-in_err-roles_fit-clause-first : goal.returns-in_err-roles_fit-clause-first
returns-in_err-roles_fit-clause-first c =
    let n = c.args.names.now in
    let qs = c.packages-packages.result.now in
    let t = c.args.classes.now in
    let ms = c.methods.result.now in
    let a = asked n qs t ms c.requires.names c.requires.table c.packages-packages.ensures.is c.methods.ensures.is in
    let p = err_from_is_err_and c.from_residual-in_err-roles_fit.result c.from_residual-in_err-roles_fit.ensures.1 in
    rw (p.1, p.2)
    (roles_first n.packages n.roles qs t ms a c.in_err-roles_fit.field-0.0 (catches_none n.packages n.roles qs t ms a _ c.in_ok-handlers_fit.ensures)
    (arrays_none n.packages n.roles qs t ms a _ c.in_ok-arrays_fit.ensures.is) c.in_err-roles_fit.ensures.is)

pub returns-clause-first : goal.returns-clause-first
returns-clause-first c =
    let n = c.args.names.now in
    let qs = c.packages-packages.result.now in
    let t = c.args.classes.now in
    let ms = c.methods.result.now in
    let a = asked n qs t ms c.requires.names c.requires.table c.packages-packages.ensures.is c.methods.ensures.is in
    rest_empty n.packages n.roles qs t ms a _ (catches_none n.packages n.roles qs t ms a _ c.in_ok-handlers_fit.ensures)
    (arrays_none n.packages n.roles qs t ms a _ c.in_ok-arrays_fit.ensures.is) c.in_ok-roles_fit.ensures.is
