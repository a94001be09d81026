use Rattle.std.proofs.Common.{◌↔◌, IsTrue, All, subst, sym, ◌∙◌, arith}
use Rattle.jc_base.specs.Dispatch.{HasBody, visible_of}
use Rattle.jc_base.proofs.Dispatches.{visible_read}
use Rattle.jc_base.proofs.Filling.{known_made, filled_once}
use Rattle.jc_base.proofs.visible_bodies.fill.Goals as goal
use Rattle.jc_base.proofs.visible_bodies.fill.Goals.{then-others, else-others}

pub returns : goal.returns
returns c =
    let t = c.args.classes.now in
    let methods = c.args.methods.now in
    let both : IsTrue c.if-others.all ↔ (IsTrue c.others_have_bodies-others.result × All (HasBody methods) (visible_of t c.args.c)) =
    elim c.if-others.branch [
      | then-others w ↦
          let bodies : IsTrue w.all_have_bodies-all.result ↔ All (HasBody methods) (visible_of t c.args.c) =
          subst (λ list. IsTrue w.all_have_bodies-all.result ↔ All (HasBody methods) list)
          (w.as_slice.ensures ∙ sym (visible_read t c.args.c w.record.result.now w.record.ensures.is)) w.all_have_bodies-all.ensures in
          rw w.all-is ((λ h. (w.if-others.true, bodies.0 h)), (λ two. bodies.1 two.1))
      | else-others w ↦ rw w.all-is grind (arith, w.if-others.false)
    ] in
    let known = known_made t methods c.args.c c.others_have_bodies-others.result c.if-others.all c.others_have_bodies-others.ensures both in
    filled_once t methods c.args.slots.now.items c.args.c _ c.requires.class c.requires.slots known
