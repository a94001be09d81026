use Rattle.std.proofs.Common.{◌∙◌, ◌++◌, ◌≤◌, ap, sym, map}
use Rattle.jc_rules.specs.Effect.{in_stack_order, ready}
use Rattle.jc_rules.proofs.Stacks.{drop-cells}
use Rattle.jc_rules.proofs.effect.change_stack.Goals as goal

pub returns-in-Replace-clause-stack : goal.returns-in-Replace-clause-stack
returns-in-Replace-clause-stack c =
    let there : c.in-Replace.taken ≤ c.args.depth = rw c.in-Replace.is at c.requires.there in
    rw c.in-Replace.is
    (c.push.ensures.stack
    ∙ ap (λ xs. in_stack_order c.in-Replace.given ++ xs) (sym (drop-cells c.in-Replace.taken c.args.stack.now c.args.depth there c.requires.depth)))

pub returns-in-MakeReady-clause-stack : goal.returns-in-MakeReady-clause-stack
returns-in-MakeReady-clause-stack c =
    let there : c.in-MakeReady.taken ≤ c.args.depth = rw c.in-MakeReady.is at c.requires.there in
    rw c.in-MakeReady.is
    (c.push-in-MakeReady.ensures.stack ∙ ap (λ xs. in_stack_order c.in-MakeReady.given ++ xs)
    (c.make_ready-left.ensures.stack ∙ ap (λ xs. map (ready c.in-MakeReady.place c.in-MakeReady.class) xs)
    (sym (drop-cells c.in-MakeReady.taken c.args.stack.now c.args.depth there c.requires.depth))))
