-- where the last package begins, and what fails first
use Rattle.std.proofs.lemmas.Result.{err_from_is_err_and}
use Rattle.xf_last.proofs.Written.{linked-has-last}
use Rattle.xf_pack.proofs.transforming.transform_linked.Goals as goal

pub first_of_last-first-requires : goal.first_of_last-first-requires
first_of_last-first-requires c = linked-has-last c.args.packages.now c.args.roles c.args.world.now c.requires.linked

pub returns-in_err-accept_libraries-clause-end : goal.returns-in_err-accept_libraries-clause-end
returns-in_err-accept_libraries-clause-end c =
    let p = err_from_is_err_and c.from_residual.result c.from_residual.ensures.1 in
    rw (p.1, p.2) (c.in_err-accept_libraries.ensures.end c.args.packages.now)

pub returns-in_err-typings-clause-end : goal.returns-in_err-typings-clause-end
returns-in_err-typings-clause-end c =
    let p = err_from_is_err_and c.from_residual-in_err-typings.result c.from_residual-in_err-typings.ensures.1 in
    rw (p.1, p.2) (c.in_err-typings.ensures.end c.args.packages.now)

pub returns-in_err-laid-clause-end : goal.returns-in_err-laid-clause-end
returns-in_err-laid-clause-end c =
    let p = err_from_is_err_and c.from_residual-in_err-laid.result c.from_residual-in_err-laid.ensures.1 in
    rw (p.1, p.2) (c.in_err-laid.ensures.end c.args.packages.now)
