use Rattle.std.proofs.Common.{ap, subst, ◌∙◌, length, ◌<◌, IfSome}
use Rattle.jc_resolve.specs.Numbering.{numbered_methods, method_at}
use Rattle.jc_resolve.proofs.NumberLaws.{method_numbered, method_below}
use Rattle.jc_resolve.proofs.class_index.Index.method_at.Goals as goal

pub returns-clause-below : goal.returns-clause-below
returns-clause-below c =
    subst (λ ps. IfSome c.at.result (λ n. n < length (numbered_methods ps))) c.self.view_is
    (method_below c.self.inside.packages.now c.args.place c.at.result (c.at.ensures ∙ method_numbered _ _ _ _ _ _ c.args.place c.self.invariant))

pub returns-clause-is : goal.returns-clause-is
returns-clause-is c = c.at.ensures ∙ method_numbered _ _ _ _ _ _ c.args.place c.self.invariant ∙ ap (λ ps. method_at ps c.args.place) c.self.view_is
