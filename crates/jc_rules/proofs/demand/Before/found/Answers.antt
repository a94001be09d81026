use Rattle.std.proofs.Common.{◌∙◌, ap, reverse, unwrap_or}
use Rattle.jc_base.specs.declared.ty.Ty.TheVariants.{Top}
use Rattle.std.proofs.lemmas.Option.{unwrap_or-slice_get}
use Rattle.jc_rules.proofs.demand.Before.found.Goals as goal

pub returns : goal.returns
returns c = c.unwrap_or.ensures ∙ ap (λ o. unwrap_or o Top) c.cell.ensures ∙ unwrap_or-slice_get (reverse c.args.self.now.stack.now) c.args.n Top
