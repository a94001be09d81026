use Rattle.std.proofs.Common.{refl}
use Rattle.std.proofs.lemmas.Result.{err_from_is_err_and}
use Rattle.jc_link.proofs.Steps.{cells_known, linked_known}
use Rattle.jc_link.proofs.Asked.{asked, statics_none, rest_told, members_empty}
use Rattle.jc_link.proofs.linking.resolve.Goals as goal

pub members-requires-clause-cells : goal.members-requires-clause-cells
members-requires-clause-cells c =
    cells_known c.args.names.now.packages c.args.names.now.roles c.args.names.now c.requires.names c.args.classes.now c.requires.table

pub members-requires-clause-linked : goal.members-requires-clause-linked
members-requires-clause-linked c =
    linked_known c.args.names.now.packages c.args.names.now.roles c.args.names.now c.requires.names c.args.classes.now c.requires.table

pub returns-in_err-rest_fits-clause-first : goal.returns-in_err-rest_fits-clause-first
returns-in_err-rest_fits-clause-first c =
    let n = c.args.names.now in
    let qs = c.packages-packages.result.now in
    let t = c.args.classes.now in
    let a = asked n qs t n.methods c.requires.names c.requires.table c.packages-packages.ensures.is refl in
    let none = statics_none n.packages n.roles qs t n.methods a _ c.in_ok-statics_fit.ensures.is in
    let p = err_from_is_err_and c.from_residual-in_err-rest_fits.result c.from_residual-in_err-rest_fits.ensures.1 in
    rw (p.1, p.2) (rest_told n.packages n.roles qs t n.methods a c.in_ok-statics.statics c.in_ok-statics.ensures.is c.in_err-rest_fits.field-0.0 none
    c.in_ok-pools.ensures.tells.1 c.in_err-rest_fits.ensures.first)

pub returns-clause-first : goal.returns-clause-first
returns-clause-first c =
    let n = c.args.names.now in
    let qs = c.packages-packages.result.now in
    let t = c.args.classes.now in
    let a = asked n qs t n.methods c.requires.names c.requires.table c.packages-packages.ensures.is refl in
    members_empty n.packages n.roles qs t n.methods a c.in_ok-statics.statics c.in_ok-statics.ensures.is
    (statics_none n.packages n.roles qs t n.methods a _ c.in_ok-statics_fit.ensures.is) c.in_ok-pools.ensures.tells.1 c.in_ok-rest_fits.ensures.first
