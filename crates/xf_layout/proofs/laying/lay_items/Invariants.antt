use Rattle.std.proofs.Common.{◌≡◌, ◌++◌, ℕ, List, length, drop}
use Rattle.std.specs.Prelude.{slice_index}
use Rattle.xf_layout.specs.Form.{begins}
use Rattle.xf_layout.specs.Laid.{ItemsStand}
use Rattle.xf_layout.proofs.laying.lay_items.Given as goal

abbrev pub invariant-items : goal.invariant-items
invariant-items l = record {
  here : length l.code.items ≡ begins l.plan.forms.items l.k;
  reach : (after : List ℕ)
      → ItemsStand l.source.bytes.now (slice_index l.plan.places) (l.code.items ++ after) (length l.code.items) (drop l.k l.items)
      (drop l.k l.plan.forms.items)
      → ItemsStand l.source.bytes.now (slice_index l.plan.places) (l.code.items ++ after) 0 l.items l.plan.forms.items;
}
