use Rattle.std.proofs.Common.{◌↔◌, IsTrue, All, subst, sym, ◌∙◌}
use Rattle.jc_base.specs.Dispatch.{HasBody}
use Rattle.jc_base.proofs.Dispatches.{visible_read}
use Rattle.jc_base.proofs.visible_bodies.is_met.Goals as goal

pub returns-else-seen : goal.returns-else-seen
returns-else-seen c =
    let bodies : IsTrue c.all_have_bodies.result ↔ All (HasBody c.args.methods.now) _ =
    subst (λ list. IsTrue c.all_have_bodies.result ↔ All (HasBody c.args.methods.now) list)
    (c.as_slice.ensures ∙ sym (visible_read c.args.classes.now c.args.class c.record.result.now c.record.ensures.is))
    c.all_have_bodies.ensures in
    ((λ h _. bodies.0 h), (λ all. bodies.1 (all c.if-seen.false)))
