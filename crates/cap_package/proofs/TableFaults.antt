-- The least fault of the entries of tables, table by table.
use Rattle.std.proofs.Common.{arith}
use Rattle.std.proofs.Common.{◌≡◌, ℕ, List, ◌∷◌, Option}
use Rattle.std.proofs.lemmas.List.Sums.{fold-append}
use Rattle.cap_pool.specs.ExportFormat.{Exported}
use Rattle.cap_class.specs.ClassFormat.{Class}
use Rattle.cap_components.specs.declared.fault.PackFault.{PackFault}
use Rattle.cap_components.specs.Order.{least_from}
use Rattle.cap_package.specs.NameChecks.{table_entries, exported_methods, exported_fields}

pub least_entries : (fault : ℕ → Option PackFault) (c : Class) (cs : List Class) (before : Option PackFault)
    → least_from before fault (table_entries (c ∷ cs)) ≡ least_from (least_from (least_from before fault c.public) fault c.visible) fault
    (table_entries cs)
least_entries fault c cs before = grind (arith, fold-append)

pub least_exported_methods : (fault : ℕ → Option PackFault) (c : Exported) (cs : List Exported) (before : Option PackFault)
    → least_from before fault (exported_methods (c ∷ cs)) ≡ least_from (least_from before fault c.methods) fault (exported_methods cs)
least_exported_methods fault c cs before = fold-append _ before c.methods (exported_methods cs)

pub least_exported_fields : (fault : ℕ → Option PackFault) (c : Exported) (cs : List Exported) (before : Option PackFault)
    → least_from before fault (exported_fields (c ∷ cs)) ≡ least_from (least_from before fault c.fields) fault (exported_fields cs)
least_exported_fields fault c cs before = fold-append _ before c.fields (exported_fields cs)
