use Rattle.std.proofs.Common.{◌≤◌, length, sym, ◌∙◌, subst}
use Rattle.vm_act.proofs.Codes.{code-is, code-short}
use Rattle.vm_act.proofs.acting.code_of.Goals as goal

pub returns-clause-is : goal.returns-clause-is
returns-clause-is c =
    let w = c.args.world.now in
    c.of.ensures ∙ code-is w c.args.method c.method-record.result.now c.code.result.now c.method-record.ensures.is c.code.ensures.is

pub returns-clause-short : goal.returns-clause-short
returns-clause-short c =
    let w = c.args.world.now in
    let is = c.of.ensures ∙ code-is w c.args.method c.method-record.result.now c.code.result.now c.method-record.ensures.is c.code.ensures.is in
    subst (λ xs. length xs ≤ 65535) (sym is) (code-short w c.args.method c.method-record.result.now c.method-record.ensures.is c.method-record.ensures.links)
