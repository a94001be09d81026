use Rattle.std.proofs.Common.{◌∙◌, ap₂, rules}
use Rattle.std.specs.Prelude.{filter, nat_lt}
use Rattle.std.proofs.lemmas.Fn.{filter_same}
use Rattle.xf_emission.specs.Jump.{under}
use Rattle.xf_code.proofs.emitter.Emitter.under.Goals as goal

pub returns : goal.returns
unfolding under
returns c =
    filter_same _ (λ h. nat_lt h.slot c.cut-cut.result) _ (λ x b f' k. search rules) _ _ c.retain.ensures.filtered
    ∙ ap₂ (λ k hs. filter (λ h. nat_lt h.slot k) hs) c.cut-cut.ensures c.in_ok-cells.ensures
