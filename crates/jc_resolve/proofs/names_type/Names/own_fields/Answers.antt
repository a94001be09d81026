use Rattle.std.proofs.Common.{ap, sym, subst, slice_get, ◌∙◌}
use Rattle.std.specs.Prelude.{List, IfSome, slice_index}
use Rattle.cap_class.specs.ClassPart.{class_seen}
use Rattle.cap_package.specs.PackageRecord.{PackageRecord}
use Rattle.jc_resolve.specs.declared.field_records.PackageFields.{PackageFields}
use Rattle.jc_resolve.specs.Described.{IsDescribedOnce}
use Rattle.jc_resolve.specs.Names.{NamesRecord}
use Rattle.jc_resolve.specs.TypedFields.{own_kept, own_fields_in}
use Rattle.jc_resolve.proofs.TypedFields.{own_are_kept}
use Rattle.jc_resolve.proofs.names_type.Names.own_fields.Goals as goal

pub returns : goal.returns
returns c =
    let class = class_seen c.args.class in
    c.own_kept.ensures
    ∙ ap (λ (all : List PackageFields). own_kept all c.args.package class) c.self.invariant.fields_are
    ∙ own_are_kept c.self.inside.index (slice_index c.self.inside.roles 0) c.args.package class
    (subst (λ (n : NamesRecord). IfSome (slice_get n.packages c.args.package) (λ (p : PackageRecord). IsDescribedOnce p.description.items.classes class))
    (sym c.self.view_is) c.requires)
    ∙ ap (λ (n : NamesRecord). own_fields_in n.packages (slice_index n.roles 0) c.args.package class) c.self.view_is
