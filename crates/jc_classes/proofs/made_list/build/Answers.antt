use Rattle.std.proofs.Common.{◌≡◌, ◌<◌, ◌≤◌, length, refl, ◌∙◌, arith}
use Rattle.jc_classes.specs.Tables.{records_from}
use Rattle.jc_classes.proofs.Folds.{layout_at}
use Rattle.jc_classes.proofs.ClassLines.{records_next}
use Rattle.jc_classes.proofs.Agreed.{layout_cells_short, least_of_records, table_classes}
use Rattle.jc_classes.proofs.made_list.build.Goals as goal

pub record_from-requires : goal.record_from-requires
record_from-requires c =
    let low : c.classes.c < length c.args.classes.now = omega (arith, c.len-c-end.ensures, c.classes-test.true) in
    record {
      short = layout_cells_short c.args.lineage.now c.args.classes.now c.args.all.now c.classes.c c.index-all-c.result c.requires.layouts
          c.requires.short low c.index-all-c.is;
    }

pub classes-preserved : goal.classes-preserved
classes-preserved c =
    let low : c.classes.c < length c.args.classes.now = omega (arith, c.len-c-end.ensures, c.classes-test.true) in
    let own = layout_at c.args.lineage.now c.args.classes.now c.args.all.now c.classes.c c.index-all-c.result c.requires.layouts low c.index-all-c.is in
    c.in_ok-push.ensures.items
    ∙ records_next c.args.lineage.now c.args.classes.now c.classes.c c.at.result.now c.index-all-c.result c.in_ok-record_from.field-0
    c.classes.records.items c.at.ensures own c.in_ok-record_from.ensures low c.classes.invariant

pub of-requires-2 : goal.of-requires-2
of-requires-2 c =
    let high : length c.args.classes.now ≤ c.classes.c = omega (arith, c.len-c-end.ensures, c.classes-test.false) in
    let whole : c.of.result ≡ records_from c.args.lineage.now c.args.classes.now 0 c.args.classes.now = c.of.ensures
    ∙ least_of_records c.args.lineage.now c.args.classes.now c.classes.c c.classes.records.items high c.classes.invariant in
    let roles = c.roles.ensures in
    rw roles (table_classes c.args.lineage.now c.args.classes.now c.of.result c.requires.outline c.facts.ensures whole)

pub returns : goal.returns
returns c =
    let high : length c.args.classes.now ≤ c.classes.c = omega (arith, c.len-c-end.ensures, c.classes-test.false) in
    let whole : c.of.result ≡ records_from c.args.lineage.now c.args.classes.now 0 c.args.classes.now = c.of.ensures
    ∙ least_of_records c.args.lineage.now c.args.classes.now c.classes.c c.classes.records.items high c.classes.invariant in
    let roles = c.roles.ensures in
    c.of-2.ensures ∙ rw (roles, whole) refl
