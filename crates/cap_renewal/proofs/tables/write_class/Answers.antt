use Rattle.std.proofs.Common.{◌≡◌, ◌+◌, ◌*◌, false, length, ap, ◌∙◌, rules}
use Rattle.cap_bytes.specs.Table.{numbers}
use Rattle.cap_class.specs.ClassFormat.{is_interface}
use Rattle.cap_class.specs.ClassPart.{class_seen}
use Rattle.cap_bytes.specs.Edit.{patched_all}
use Rattle.cap_renewal.specs.Along.{table_edits}
use Rattle.cap_renewal.specs.NewMethods.{to}
use Rattle.cap_renewal.proofs.Steps.{two_tables}
use Rattle.cap_renewal.proofs.tables.write_class.Goals as goal

pub returns-clause-value : goal.returns-clause-value
returns-clause-value c =
    let f = to c.args.news.now in
    let k = class_seen c.args.class.now in
    let class : is_interface k.flags ≡ false = search rules in
    let public : numbers c.publics-publics.result ≡ k.public = search rules in
    let visible : numbers c.package_table.result ≡ k.visible = search rules in
    let offset : c.offset.result ≡ k.offset = search rules in
    let len : c.len.result ≡ length k.public = c.len.ensures ∙ ap length public in
    let first : c.renew_table.new.info ≡ patched_all (table_edits f (k.offset + 10) k.public) c.args.info.now =
    c.renew_table.ensures.value ∙ ap (λ at. patched_all (table_edits f (at + 10) (numbers c.publics-publics.result)) c.args.info.now) offset
    ∙ ap (λ ns. patched_all (table_edits f (k.offset + 10) ns) c.args.info.now) public in
    let second : c.renew_table-2.new.info ≡ patched_all (table_edits f (k.offset + 10 + 2 * length k.public) k.visible) c.renew_table.new.info =
    c.renew_table-2.ensures.value
    ∙ ap (λ at. patched_all (table_edits f (at + 10 + 2 * c.len.result) (numbers c.package_table.result)) c.renew_table.new.info) offset
    ∙ ap (λ n. patched_all (table_edits f (k.offset + 10 + 2 * n) (numbers c.package_table.result)) c.renew_table.new.info) len
    ∙ ap (λ ns. patched_all (table_edits f (k.offset + 10 + 2 * length k.public) ns) c.renew_table.new.info) visible in
    two_tables f k c.args.info.now c.renew_table.new.info c.renew_table-2.new.info class first second
