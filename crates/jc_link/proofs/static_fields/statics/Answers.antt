use Rattle.std.proofs.Common.{◌≡◌, subst, ap, ◌∙◌}
use Rattle.std.specs.Prelude.{All, slice_index}
use Rattle.jc_resolve.specs.WorldTypes.{type_of}
use Rattle.jc_link.specs.KnownFields.{AreStaticsKnown}
use Rattle.jc_link.specs.Statics.{static_records}
use Rattle.jc_link.proofs.TypeFacts.{types_told}
use Rattle.jc_link.proofs.FieldsApart.{statics_stand_apart}
use Rattle.jc_link.proofs.FieldFacts.{statics_typed}
use Rattle.jc_link.proofs.static_fields.statics.Goals as goal

pub returns-clause-fields : goal.returns-clause-fields
returns-clause-fields c =
    let names = c.args.names.now in
    let same : c.packages.result.now ≡ names.packages = cc in
    let told = type_of names.packages (slice_index names.roles 0) in
    statics_typed told (types_told names.packages (slice_index names.roles 0)) names.packages
    (subst (λ ps. All AreStaticsKnown ps) same c.in_ok-fields.ensures.known) c.in_ok-fields.fields
    (c.in_ok-fields.ensures.is ∙ ap (static_records told) same)

pub returns-clause-apart : goal.returns-clause-apart
returns-clause-apart c = statics_stand_apart _ c.packages.result.now c.in_ok-fields.ensures.known c.in_ok-fields.fields c.in_ok-fields.ensures.is
