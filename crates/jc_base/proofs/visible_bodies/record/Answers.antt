use Rattle.std.proofs.Common.{subst}
use Rattle.std.specs.Prelude.{IfSome}
use Rattle.jc_base.specs.Linked.{IsLinkedClass}
use Rattle.jc_base.proofs.visible_bodies.record.Goals as goal

pub returns-clause-links : goal.returns-clause-links
returns-clause-links c =
    subst (λ o. IfSome o (IsLinkedClass 16 c.args.classes.now c.args.methods.now c.args.class)) c.at.ensures.is (c.requires.links c.args.class)
