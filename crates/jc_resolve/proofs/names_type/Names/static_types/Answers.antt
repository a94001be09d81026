use Rattle.std.proofs.Common.{ap, ◌∙◌}
use Rattle.std.specs.Prelude.{List, slice_index}
use Rattle.jc_resolve.specs.declared.field_records.PackageFields.{PackageFields}
use Rattle.jc_resolve.specs.Names.{NamesRecord}
use Rattle.jc_resolve.specs.TypedFields.{types_kept, static_field_types}
use Rattle.jc_resolve.proofs.TypedFields.{static_kept}
use Rattle.jc_resolve.proofs.names_type.Names.static_types.Goals as goal

pub returns : goal.returns
returns c =
    c.types_kept.ensures
    ∙ ap (λ (all : List PackageFields). types_kept all c.args.package) c.self.invariant.fields_are
    ∙ static_kept c.self.inside.index (slice_index c.self.inside.roles 0) c.args.package
    ∙ ap (λ (n : NamesRecord). static_field_types n.packages (slice_index n.roles 0) c.args.package) c.self.view_is
