-- How many classes names and class tables have.
use Rattle.std.proofs.Common.{◌≡◌, ℕ, List, length, ap, ◌∙◌, arith}
use Rattle.std.specs.Prelude.{slice_index}
use Rattle.std.proofs.lemmas.List.{length-map}
use Rattle.jc_base.specs.Class.{ClassTable}
use Rattle.jc_resolve.specs.declared.naming.NamedClass.{NamedClass}
use Rattle.jc_resolve.specs.Numbering.{numbered_classes}
use Rattle.jc_resolve.specs.NamedClasses.{named_classes, named_class}
use Rattle.jc_resolve.specs.Names.{NamesRecord}
use Rattle.jc_link.specs.Fields.{HasCellsOf}

pub records_counted : (classes : List NamedClass) (object_is : ℕ) (t : ClassTable) → HasCellsOf classes object_is t → length t.records ≡ length classes
records_counted classes object_is t has = grind (arith, length-map)

pub named_counted : (n : NamesRecord) → n.classes ≡ named_classes n.packages (slice_index n.roles 0)
    → length n.classes ≡ length (numbered_classes n.packages)
unfolding named_classes
named_counted n named = ap length named ∙ length-map (numbered_classes n.packages) (named_class n.packages (slice_index n.roles 0))
