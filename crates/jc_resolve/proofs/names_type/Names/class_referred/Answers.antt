use Rattle.std.proofs.Common.{ap, ◌∙◌}
use Rattle.jc_resolve.specs.Names.{NamesRecord}
use Rattle.jc_resolve.specs.References.{class_referred}
use Rattle.jc_resolve.proofs.ReferenceLaws.{answer-refers}
use Rattle.jc_resolve.proofs.names_type.Names.class_referred.Goals as goal

pub returns-clause-refers : goal.returns-clause-refers
returns-clause-refers c =
    answer-refers c.args.self.now.packages c.args.«package» c.args.reference c.class_referred.result
    (c.class_referred.ensures.is ∙ ap (λ (n : NamesRecord). class_referred n.packages c.args.«package» c.args.reference) c.self.view_is)
