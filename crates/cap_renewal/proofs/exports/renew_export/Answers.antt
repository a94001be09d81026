use Rattle.std.proofs.Common.{◌≡◌, ◌+◌, ◌*◌, length, sym, ap, subst, ◌∙◌, arith, rules}
use Rattle.cap_bytes.specs.Table.{numbers}
use Rattle.cap_pool.specs.ExportFormat.{class_export_info}
use Rattle.cap_pool.specs.Export.{exported_class_seen, export_seen, exported_left}
use Rattle.cap_bytes.specs.Edit.{patched_all}
use Rattle.cap_renewal.specs.Along.{table_edits}
use Rattle.cap_renewal.specs.ExportEdits.{exported_edits, renewed_exported, exported_width, export_edits}
use Rattle.cap_renewal.specs.NewMethods.{to}
use Rattle.cap_renewal.proofs.Items.{IsRenewing, IsNext, renewing_next, renewing_more}
use Rattle.cap_renewal.proofs.ExportItems.{exported_item, export_begins, export_inside, export_fit, export_renewed}
use Rattle.cap_bytes.specs.Renewal.{Renews}
use Rattle.cap_renewal.proofs.News.{keeps_small}
use Rattle.cap_renewal.proofs.exports.renew_export.Goals as goal

pub classes-init : goal.classes-init
classes-init c =
    let f = to c.args.news.now in
    let e : export_seen c.args.export.now ≡ exported_left c.into_iter-class-iterator.result = cc in
    subst
    (λ xs. IsRenewing class_export_info (exported_edits f) exported_width c.args.info.now
    (patched_all (export_edits f (export_seen c.args.export.now)) c.args.info.now) 1 xs c.args.info.now)
    e (export_begins f c.args.info.now (export_seen c.args.export.now) c.requires)

pub renew_table-requires : goal.renew_table-requires
renew_table-requires c =
    let f = to c.args.news.now in
    let n : IsNext class_export_info exported_width c.args.info.now c.classes.info c.classes.at (exported_class_seen c.in-Some.class) =
    renewing_next class_export_info (exported_edits f) exported_width (renewed_exported f) c.args.info.now
    (patched_all (export_edits f (export_seen c.args.export.now)) c.args.info.now) c.classes.at (exported_left c.classes.class-iterator) c.classes.info
    (exported_class_seen c.in-Some.class) (exported_left c.next.new.self) (exported_item f c.args.info.now) c.classes.invariant
    c.in-Some.ensures.steps in
    let w = n.within in
    omega arith

pub classes-preserved : goal.classes-preserved
classes-preserved c =
    let f = to c.args.news.now in
    let p : c.classes.at + (4 + 2 * length (numbers c.in-Some.class.fields)) ≡ c.classes.at + 4 + 2 * c.len.result = omega arith in
    let v : c.renew_table.new.info ≡ patched_all (exported_edits f c.classes.at (exported_class_seen c.in-Some.class)) c.classes.info =
    c.renew_table.ensures.value ∙ ap (λ at. patched_all (table_edits f at (numbers c.in-Some.class.methods)) c.classes.info) (sym p) in
    renewing_more class_export_info (exported_edits f) exported_width (renewed_exported f) c.args.info.now
    (patched_all (export_edits f (export_seen c.args.export.now)) c.args.info.now) c.classes.at (exported_left c.classes.class-iterator) c.classes.info
    (exported_class_seen c.in-Some.class) (exported_left c.next.new.self)
    _ c.renew_table.new.info (exported_item f c.args.info.now) c.classes.invariant c.in-Some.ensures.steps (omega arith) v c.renew_table.ensures.long

pub returns-clause-renewed : goal.returns-clause-renewed
returns-clause-renewed c =
    let f = to c.args.news.now in
    let cs = export_seen c.args.export.now in
    let v : c.classes.info ≡ patched_all (export_edits f cs) c.args.info.now = search rules in
    rw v
    (c.patches_renew.ensures (export_edits f cs) c.args.info.now (export_inside f c.args.info.now cs c.requires)
    (export_fit f c.args.info.now cs c.are_bytes.ensures (keeps_small c.args.news.now c.are_small.ensures) c.requires))

pub returns-clause-stands : goal.returns-clause-stands
returns-clause-stands c =
    let f = to c.args.news.now in
    let cs = export_seen c.args.export.now in
    let v : c.classes.info ≡ patched_all (export_edits f cs) c.args.info.now = search rules in
    let r : Renews (export_edits f cs) c.args.info.now c.classes.info =
    rw v
    (c.patches_renew.ensures (export_edits f cs) c.args.info.now (export_inside f c.args.info.now cs c.requires)
    (export_fit f c.args.info.now cs c.are_bytes.ensures (keeps_small c.args.news.now c.are_small.ensures) c.requires)) in
    export_renewed f c.args.info.now c.classes.info cs c.requires r
