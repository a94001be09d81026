use Rattle.std.proofs.Common.{◌↔◌, IsTrue, All, subst, sym, ◌∙◌}
use Rattle.jc_base.specs.Dispatch.{HasBody}
use Rattle.jc_base.proofs.Dispatches.{public_read}
use Rattle.jc_base.proofs.visible_bodies.public_have_bodies.Goals as goal

pub returns : goal.returns
returns c =
    subst (λ list. IsTrue c.all_have_bodies.result ↔ All (HasBody c.args.methods.now) list)
    (c.as_slice.ensures ∙ sym (public_read c.args.classes.now c.args.class c.record.result.now c.record.ensures.is))
    c.all_have_bodies.ensures
