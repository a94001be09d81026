use Rattle.std.proofs.lemmas.List.Elements.{All-append, All-same}
use Rattle.jc_base.specs.declared.record.ArrayRec.{ArrayRec}
use Rattle.jc_base.specs.Cell.{AreElementsOf}
use Rattle.jc_link.proofs.ArrayLists.{arrays_more}
use Rattle.jc_link.proofs.static_fields.arrays.Goals as goal

pub packages-preserved : goal.packages-preserved
packages-preserved c = record {
  all = arrays_more _ _ _ c.args.packages.now c.packages.n _ c.at.ensures c.packages.invariant.all c.in_ok-push_arrays.ensures.is;
  elements =
      let P = λ (a : ArrayRec). AreElementsOf a.kind a.initial in
      All-same P _ _ c.in_ok-push_arrays.ensures.is (All-append P _ _ c.packages.invariant.elements c.in_ok-push_arrays.ensures.elements);
}
