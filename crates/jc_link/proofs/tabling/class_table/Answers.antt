use Rattle.std.proofs.lemmas.Result.{err_from_is_err_and}
use Rattle.jc_link.proofs.Steps.{table_told}
use Rattle.jc_link.proofs.tabling.class_table.Goals as goal

pub returns-in_err-tabled : goal.returns-in_err-tabled
returns-in_err-tabled c =
    let p = err_from_is_err_and c.from_residual.result c.from_residual.ensures.1 in
    rw (p.1, p.2) (record { tells = table_told c.args.packages.now c.args.roles c.in_err-tabled.field-0.0 c.in_err-tabled.ensures.first })

pub returns : goal.returns
returns c = record { tells = (c.in_ok-tabled.ensures.table.is, c.in_ok-tabled.ensures.first) }
