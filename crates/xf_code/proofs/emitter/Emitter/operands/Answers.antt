use Rattle.std.proofs.Common.{◌∙◌, ap₂, rules}
use Rattle.std.specs.Prelude.{filter, nat_le}
use Rattle.std.proofs.lemmas.Fn.{filter_same}
use Rattle.xf_emission.specs.Jump.{operands}
use Rattle.xf_code.proofs.emitter.Emitter.operands.Goals as goal

pub returns : goal.returns
unfolding operands
returns c =
    filter_same _ (λ h. nat_le c.cut-cut.result h.slot) _ (λ x b f' k. search rules) _ _ c.retain.ensures.filtered
    ∙ ap₂ (λ k hs. filter (λ h. nat_le k h.slot) hs) c.cut-cut.ensures c.in_ok-cells.ensures
