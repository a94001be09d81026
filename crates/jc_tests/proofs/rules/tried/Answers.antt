use Rattle.std.proofs.Common.{rules, take, All}
use Rattle.jc_base.specs.Order.{IsKnown}
use Rattle.jc_base.proofs.Lists.{All-reverse}
use Rattle.jc_rules.specs.Stack.{cells}
use Rattle.jc_tests.proofs.rules.tried.Goals as goal

pub apply-requires-clause-stack_known : goal.apply-requires-clause-stack_known
unfolding cells
apply-requires-clause-stack_known c =
    let known : All (IsKnown c.args.world.now.classes) (take c.args.depth c.args.stack.now) = search rules in
    All-reverse (IsKnown c.args.world.now.classes) (take c.args.depth c.args.stack.now) known
