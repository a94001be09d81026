use Rattle.std.specs.Prelude.{◌≡◌, ◌++◌, All, drop}
use Rattle.jc_base.specs.Cell.{AreElementsOf}
use Rattle.jc_link.specs.Arrays.{array_records}
use Rattle.jc_link.proofs.static_fields.arrays.Given as goal

abbrev pub invariant-packages : goal.invariant-packages
invariant-packages l = record {
  all : l.records.items ++ array_records (drop l.n l.packages) ≡ array_records l.packages;
  elements : All (λ a. AreElementsOf a.kind a.initial) l.records.items;
}
