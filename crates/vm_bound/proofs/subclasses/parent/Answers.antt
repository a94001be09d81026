use Rattle.std.proofs.Common.{sym, ◌∙◌, subst}
use Rattle.std.proofs.lemmas.Bool.{false≢true}
use Rattle.jc_base.specs.Class.{ClassTable, IsClass}
use Rattle.vm_bound.proofs.Subclassing.{parent-none}
use Rattle.vm_bound.proofs.subclasses.parent.Goals as goal

pub returns-else-is_class : goal.returns-else-is_class
returns-else-is_class c =
    parent-none c.args.world.now.classes c.args.class
    (λ class.
    false≢true
    (sym c.if-is_class.false
    ∙ c.is_class.ensures.1 (subst (λ (t : ClassTable). IsClass t c.args.class) (sym c.classes-classes.ensures.is) class)))
