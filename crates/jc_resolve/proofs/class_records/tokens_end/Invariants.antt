use Rattle.std.proofs.Common.{◌≡◌, ◌+◌, ◌≤◌, fold, drop}
use Rattle.std.specs.Prelude.{max}
use Rattle.jc_resolve.specs.declared.field_records.OwnField.{OwnField}
use Rattle.jc_resolve.proofs.class_records.tokens_end.Given as goal

abbrev pub invariant-fields : goal.invariant-fields
invariant-fields l =
    (fold (λ end (f : OwnField). max end (f.token + 1)) l.end (drop l.field-index l.fields) ≡ fold (λ end (f : OwnField). max end (f.token + 1)) 0 l.fields)
    × (l.end ≤ 256)
