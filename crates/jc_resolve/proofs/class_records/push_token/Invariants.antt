use Rattle.std.proofs.Common.{◌≡◌, ◌++◌, filter, flat_map, drop}
use Rattle.jc_resolve.specs.OwnFields.{bears_token, cells_of_own}
use Rattle.jc_resolve.proofs.class_records.push_token.Given as goal

abbrev pub invariant-fields : goal.invariant-fields
invariant-fields l =
    l.cells.items ++ flat_map cells_of_own (filter (bears_token l.token) (drop l.field-index l.fields))
    ≡ l.initial.cells.items ++ flat_map cells_of_own (filter (bears_token l.token) l.fields)
