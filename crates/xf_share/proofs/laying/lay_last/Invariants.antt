use Rattle.std.proofs.Common.{◌≡◌, ◌+◌, vec_len}
use Rattle.jc_control.specs.Asked.{AllHaveBelow, IsOfLast}
use Rattle.law_shared_world.specs.SharedCode.{HasSharedCode}
use Rattle.xf_last.specs.Last.{EachFrom}
use Rattle.xf_share.specs.Passes.{IsSharedAt}
use Rattle.xf_share.proofs.laying.lay_last.Given as goal

abbrev pub invariant-methods : goal.invariant-methods
invariant-methods l = record {
  each : EachFrom (IsSharedAt l.world) l.first l.laid.items;
  many : l.first + vec_len l.laid ≡ l.number;
  below : AllHaveBelow (IsOfLast l.world) (HasSharedCode l.world) l.number;
}
