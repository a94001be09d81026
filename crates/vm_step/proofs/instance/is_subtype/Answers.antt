use Rattle.std.proofs.Common.{◌≡◌, sym, ap, ◌∙◌, subst}
use Rattle.jc_base.specs.declared.ty.Ty.TheVariants.{Class}
use Rattle.jc_base.specs.Class.{ClassTable, is_interface}
use Rattle.jc_base.specs.Order.{is_below}
use Rattle.vm_step.proofs.Search.{subtype-classes}
use Rattle.vm_step.proofs.instance.is_subtype.Goals as goal

pub returns-else-is_interface-2-clause-computed : goal.returns-else-is_interface-2-clause-computed
returns-else-is_interface-2-clause-computed c =
    let t = c.args.world.now.classes in let is = c.classes-classes.ensures.is in
    let Asked : ClassTable → Type 0 = λ u. c.below.result ≡ is_below u (Class c.args.of) (Class c.args.above) in
    subst Asked is c.below.ensures.computed
    ∙ subtype-classes t c.args.of c.args.above
    (ap (λ u. is_interface u c.args.above) (sym is) ∙ (sym c.is_interface.ensures ∙ c.if-is_interface.false))
    (ap (λ u. is_interface u c.args.of) (sym is) ∙ (sym c.is_interface-else-is_interface.ensures ∙ c.if-is_interface-2.false))
