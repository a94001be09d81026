use Rattle.std.proofs.Common.{All, IfSome, length, reverse, subst, sym}
use Rattle.jc_base.specs.Order.{IsKnown}
use Rattle.jc_rules.specs.Typing.{state_at}
use Rattle.jc_base.proofs.Lists.{All-turned}
use Rattle.jc_flow.specs.Found.{HasKnown}
use Rattle.jc_flow.specs.Visit.{analysed}
use Rattle.jc_flow.proofs.Raise.{place-there, regs-known, stack-known, held-known, raise-result}
use Rattle.jc_flow.proofs.analysis.Analysis.raise.Goals as goal

pub put-requires-clause-place : goal.put-requires-clause-place
put-requires-clause-place c =
    place-there c.args.self.now.subject.world.now c.requires.analysis.rules (analysed c.args.self.now) c.args.self.now.subject.there c.args.table.now
    c.requires.held c.args.to (record { regs = c.args.regs.now; stack = reverse c.args.stack.now }) c.requires.frame

pub put-requires-clause-regs_known : goal.put-requires-clause-regs_known
put-requires-clause-regs_known c =
    subst (λ t. All (IsKnown t) c.args.regs.now) (sym c.classes.ensures.is)
    (regs-known c.args.self.now.subject.world.now c.requires.analysis.rules (analysed c.args.self.now) c.args.self.now.subject.there c.args.table.now
    c.requires.held c.args.to (record { regs = c.args.regs.now; stack = reverse c.args.stack.now }) c.requires.frame)

pub put-requires-clause-stack_known : goal.put-requires-clause-stack_known
put-requires-clause-stack_known c =
    subst (λ t. All (IsKnown t) c.args.stack.now) (sym c.classes.ensures.is)
    (All-turned (IsKnown c.args.self.now.subject.world.now.classes) c.args.stack.now
    (stack-known c.args.self.now.subject.world.now c.requires.analysis.rules (analysed c.args.self.now) c.args.self.now.subject.there c.args.table.now
    c.requires.held c.args.to (record { regs = c.args.regs.now; stack = reverse c.args.stack.now }) c.requires.frame))

pub put-requires-clause-held_known : goal.put-requires-clause-held_known
put-requires-clause-held_known c =
    subst (λ t. IfSome (state_at c.args.table.now.states c.args.to) (HasKnown t (length c.args.regs.now))) (sym c.classes.ensures.is)
    (held-known c.args.self.now.subject.world.now c.requires.analysis.rules (analysed c.args.self.now) c.args.self.now.subject.there c.args.table.now
    c.requires.held c.args.to (record { regs = c.args.regs.now; stack = reverse c.args.stack.now }) c.requires.frame)

pub returns : goal.returns
returns c =
    raise-result c.args.self.now.subject.world.now c.requires.analysis.rules (analysed c.args.self.now) c.args.self.now.subject.there c.args.table.now
    c.requires.held c.args.to (record { regs = c.args.regs.now; stack = reverse c.args.stack.now }) c.requires.frame
    c.classes.result.now c.put.new.self c.put.result c.classes.ensures.is c.put.ensures
