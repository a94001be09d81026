use Rattle.std.proofs.Common.{◌≡◌, ◌++◌, ◌∙◌, sym, subst}
use Rattle.std.specs.Prelude.{OnOk}
use Rattle.xf_homes.specs.PlannedMethod.{source}
use Rattle.law_groups.proofs.BareForks.{body-branch}
use Rattle.xf_code.proofs.emitter.Emitter.instruction.Goals as goal

pub returns-clause-items : goal.returns-clause-items
returns-clause-items c =
    let s = source c.args.self.now.plan in
    let asks = sym c.operands.ensures ∙ c.in-Some.is in
    subst (λ xs. OnOk c.branch-self.result (c.branch-self.new.items.items ≡ c.args.out.now.items.items ++ xs))
    (sym (body-branch s c.args.placed c.args.operation c.in-Some.operands asks)) c.branch-self.ensures.items
