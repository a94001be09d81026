use Rattle.std.proofs.Common.{◌∙◌, ap, unwrap_or}
use Rattle.jc_base.specs.declared.ty.Ty.TheVariants.{Top}
use Rattle.std.proofs.lemmas.Option.{unwrap_or-slice_get}
use Rattle.jc_rules.proofs.demand.Before.held.Goals as goal

pub returns : goal.returns
returns c = c.unwrap_or.ensures ∙ ap (λ o. unwrap_or o Top) c.reg.ensures ∙ unwrap_or-slice_get c.args.self.now.regs.now c.args.x Top
