use Rattle.std.proofs.Common.{◌≡◌, ◌≤◌, ◌+◌, ◌*◌, length}
use Rattle.cap_bytes.specs.Table.{numbers}
use Rattle.cap_bytes.specs.Edit.{patched_all}
use Rattle.cap_renewal.specs.Along.{table_edits}
use Rattle.cap_renewal.specs.NewMethods.{to}
use Rattle.cap_renewal.proofs.tables.renew_table.Given as goal

abbrev pub invariant-offsets : goal.invariant-offsets
invariant-offsets l = record {
  room : l.at + 2 * length (numbers l.offset-iterator) ≤ length l.info;
  long : length l.info ≡ length l.initial.info;
  so_far : patched_all (table_edits (to l.news) l.at (numbers l.offset-iterator)) l.info
      ≡ patched_all (table_edits (to l.news) l.start (numbers l.fn.table)) l.initial.info;
}
