use Rattle.std.proofs.Common.{ap, subst, ◌∙◌, length, ◌<◌, IfSome}
use Rattle.jc_resolve.specs.Numbering.{numbered_classes, class_at}
use Rattle.jc_resolve.proofs.NumberLaws.{class_numbered, class_below}
use Rattle.jc_resolve.proofs.class_index.Index.class_at.Goals as goal

pub returns-clause-below : goal.returns-clause-below
returns-clause-below c =
    subst (λ ps. IfSome c.at.result (λ n. n < length (numbered_classes ps))) c.self.view_is
    (class_below c.self.inside.packages.now c.args.place c.at.result (c.at.ensures ∙ class_numbered _ _ _ _ _ _ c.args.place c.self.invariant))

pub returns-clause-is : goal.returns-clause-is
returns-clause-is c = c.at.ensures ∙ class_numbered _ _ _ _ _ _ c.args.place c.self.invariant ∙ ap (λ ps. class_at ps c.args.place) c.self.view_is
