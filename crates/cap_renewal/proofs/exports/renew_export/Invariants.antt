use Rattle.cap_pool.specs.ExportFormat.{class_export_info}
use Rattle.cap_pool.specs.Export.{export_seen, exported_left}
use Rattle.cap_bytes.specs.Edit.{patched_all}
use Rattle.cap_renewal.specs.ExportEdits.{exported_edits, exported_width, export_edits}
use Rattle.cap_renewal.specs.NewMethods.{to}
use Rattle.cap_renewal.proofs.Items.{IsRenewing}
use Rattle.cap_renewal.proofs.exports.renew_export.Given as goal

abbrev pub invariant-classes : goal.invariant-classes
invariant-classes l =
    IsRenewing class_export_info (exported_edits (to l.news)) exported_width l.initial.info
    (patched_all (export_edits (to l.news) (export_seen l.export)) l.initial.info) l.at (exported_left l.class-iterator) l.info
