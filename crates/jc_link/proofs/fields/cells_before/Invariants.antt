use Rattle.std.proofs.Common.{◌≡◌, ◌+◌, drop}
use Rattle.jc_link.specs.Fields.{cells_before}
use Rattle.jc_link.proofs.fields.cells_before.Given as goal

abbrev pub invariant-fields : goal.invariant-fields
invariant-fields l = l.cells + cells_before (drop l.field-index l.fields) l.token ≡ cells_before l.fields l.token
