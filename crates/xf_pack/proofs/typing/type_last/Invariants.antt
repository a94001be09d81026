use Rattle.std.proofs.Common.{◌≡◌, ◌+◌, vec_len}
use Rattle.jc_base.specs.declared.ty.Ty.TheVariants.{Top}
use Rattle.jc_control.specs.Asked.{AllHaveBelow, IsOfLast}
use Rattle.jc_rules.specs.Flow.{HasFlowTyping}
use Rattle.xf_last.specs.Last.{EachFrom}
use Rattle.xf_pack.specs.Passes.{IsTypingAt}
use Rattle.xf_pack.proofs.typing.type_last.Given as goal

abbrev pub invariant-methods : goal.invariant-methods
invariant-methods l = record {
  each : EachFrom (IsTypingAt l.world) l.first l.typings.items;
  many : l.first + vec_len l.typings ≡ l.number;
  below : AllHaveBelow (IsOfLast l.world) (λ m. HasFlowTyping l.world m Top) l.number;
}
