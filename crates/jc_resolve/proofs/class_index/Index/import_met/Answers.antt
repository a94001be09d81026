use Rattle.std.proofs.Common.{ap, ◌∙◌}
use Rattle.jc_resolve.specs.References.{met_by}
use Rattle.jc_resolve.proofs.ImportLaws.{met_there, met_before}
use Rattle.jc_resolve.proofs.class_index.Index.import_met.Goals as goal

pub returns-clause-is : goal.returns-clause-is
returns-clause-is c =
    c.met_among.ensures
    ∙ met_there _ _ c.args.package c.args.token c.self.invariant.imports
    ∙ ap (λ ps. met_by ps c.args.package c.args.token) c.self.view_is

pub returns-clause-earlier : goal.returns-clause-earlier
returns-clause-earlier c =
    met_before c.self.inside.packages.now c.args.package c.args.token c.met_among.result
    (c.met_among.ensures ∙ met_there _ _ c.args.package c.args.token c.self.invariant.imports)
