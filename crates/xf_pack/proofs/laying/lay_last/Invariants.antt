use Rattle.std.proofs.Common.{◌≡◌, ◌+◌, vec_len}
use Rattle.jc_control.specs.Asked.{AllHaveBelow, IsOfLast}
use Rattle.law_transform.specs.Laid.{HasLaidCode}
use Rattle.xf_last.specs.Last.{EachFrom}
use Rattle.xf_pack.specs.Passes.{IsLaidAt}
use Rattle.xf_pack.proofs.laying.lay_last.Given as goal

abbrev pub invariant-methods : goal.invariant-methods
invariant-methods l = record {
  each : EachFrom (IsLaidAt l.world) l.first l.laid.items;
  many : vec_len l.laid ≡ l.k;
  below : AllHaveBelow (IsOfLast l.world) (HasLaidCode l.world) (l.first + l.k);
}
