use Rattle.std.proofs.Common.{◌≤◌, length, ap, arith}
use Rattle.std.proofs.lemmas.Result.{err_from_is_err_and}
use Rattle.jc_link.proofs.Steps.{lines_known, range_known, methods_known, classes_known, line_told, class_told, class_empty, table_known, outline_roles}
use Rattle.jc_link.proofs.tabling.table.Goals as goal

pub lineage-requires-clause-known : goal.lineage-requires-clause-known
lineage-requires-clause-known c =
    lines_known c.args.packages.now c.args.roles c.args.names.now c.requires c.classes-classes.result.now c.classes-classes.ensures.is

pub tables-requires-clause-outline : goal.tables-requires-clause-outline
tables-requires-clause-outline c = outline_roles c.classes-classes.result.now c.args.roles c.in_ok-lineage.lineage c.in_ok-lineage.ensures.tells.0

pub tables-requires-clause-known : goal.tables-requires-clause-known
tables-requires-clause-known c =
    let few : length c.classes-classes.result.now ≤ 4096 = omega (arith, ap length c.classes-classes.ensures.is, c.facts.ensures.few_classes) in
    classes_known c.args.packages.now c.args.roles c.args.names.now c.requires c.classes-classes.result.now c.in_ok-lineage.lineage
    c.classes-classes.ensures.is few c.in_ok-lineage.ensures.lines

pub tables-requires-clause-interfaces : goal.tables-requires-clause-interfaces
tables-requires-clause-interfaces c =
    range_known c.args.packages.now c.args.roles c.args.names.now c.requires c.classes-classes.result.now c.classes-classes.ensures.is

pub tables-requires-clause-methods : goal.tables-requires-clause-methods
tables-requires-clause-methods c =
    methods_known c.args.packages.now c.args.roles c.args.names.now c.requires c.classes-classes.result.now c.methods-methods.result.now
    c.classes-classes.ensures.is c.methods-methods.ensures.is

pub returns-in_err-lineage-clause-first : goal.returns-in_err-lineage-clause-first
returns-in_err-lineage-clause-first c =
    let p = err_from_is_err_and c.from_residual.result c.from_residual.ensures.1 in
    rw (p.1, p.2) (line_told c.args.packages.now c.args.roles c.args.names.now c.requires c.classes-classes.result.now c.first_classes-first.result
    c.in_err-lineage.field-0.0 c.classes-classes.ensures.is c.first_classes-first.ensures c.in_err-lineage.ensures.tells)

pub returns-in_err-table-clause-first : goal.returns-in_err-table-clause-first
returns-in_err-table-clause-first c =
    let p = err_from_is_err_and c.from_residual-in_err-table.result c.from_residual-in_err-table.ensures.1 in
    rw (p.1, p.2) (class_told c.args.packages.now c.args.roles c.args.names.now c.requires c.classes-classes.result.now c.methods-methods.result.now
    c.first_classes-first.result c.in_ok-lineage.lineage c.in_err-table.field-0.0 c.classes-classes.ensures.is c.methods-methods.ensures.is
    c.first_classes-first.ensures
    c.in_ok-lineage.ensures.tells.0 c.in_ok-lineage.ensures.tells.1 c.in_err-table.ensures.tells)

pub returns-clause-first : goal.returns-clause-first
returns-clause-first c =
    class_empty c.args.packages.now c.args.roles c.args.names.now c.requires c.classes-classes.result.now c.methods-methods.result.now
    c.first_classes-first.result c.in_ok-lineage.lineage c.classes-classes.ensures.is c.methods-methods.ensures.is c.first_classes-first.ensures
    c.in_ok-lineage.ensures.tells.0
    c.in_ok-lineage.ensures.tells.1 c.in_ok-table.ensures.tells.1

pub returns-clause-known : goal.returns-clause-known
returns-clause-known c =
    let few : length c.classes-classes.result.now ≤ 4096 = omega (arith, ap length c.classes-classes.ensures.is, c.facts.ensures.few_classes) in
    table_known c.args.packages.now c.args.roles c.args.names.now c.requires c.classes-classes.result.now c.methods-methods.result.now
    c.in_ok-lineage.lineage c.in_ok-table.table c.classes-classes.ensures.is c.methods-methods.ensures.is few c.in_ok-lineage.ensures.eight
    c.in_ok-lineage.ensures.tells.0 c.facts-2.ensures
    c.in_ok-lineage.ensures.lines c.in_ok-table.ensures.tells.0 c.in_ok-table.ensures.linked
