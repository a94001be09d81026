use Rattle.std.proofs.lemmas.Result.{err_from_is_err_and}
use Rattle.jc_link.proofs.Steps.{names_tell, classes_tell, table_empty}
use Rattle.jc_link.proofs.tabling.with_table.Goals as goal

pub returns-in_err-names-clause-first : goal.returns-in_err-names-clause-first
returns-in_err-names-clause-first c =
    let p = err_from_is_err_and c.from_residual.result c.from_residual.ensures.1 in
    rw (p.1, p.2) (names_tell c.args.packages.now c.args.roles c.in_err-names.field-0.0 c.in_err-names.ensures.first)

pub returns-in_err-classes-clause-first : goal.returns-in_err-classes-clause-first
returns-in_err-classes-clause-first c =
    let p = err_from_is_err_and c.from_residual-in_err-classes.result c.from_residual-in_err-classes.ensures.1 in
    rw (p.1, p.2) (classes_tell c.args.packages.now c.args.roles c.in_err-classes.field-0.0 c.in_ok-names.ensures.first c.in_err-classes.ensures.first)

pub returns-clause-first : goal.returns-clause-first
returns-clause-first c = table_empty c.args.packages.now c.args.roles c.in_ok-names.ensures.first c.in_ok-classes.ensures.first
