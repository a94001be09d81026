use Rattle.std.proofs.Common.{◌≡◌, ◌++◌, ◌-◌}
use Rattle.jc_resolve.specs.OwnFields.{cells_over}
use Rattle.jc_resolve.proofs.class_records.cells_of_fields.Given as goal

abbrev pub invariant-tokens : goal.invariant-tokens
invariant-tokens l = l.cells.items ++ cells_over l.fields l.token (256 - l.token) ≡ cells_over l.fields 0 256
