use Rattle.jc_rules.proofs.Stacks.{cells-exchanged}
use Rattle.jc_rules.proofs.effect.exchange.Goals as goal

pub returns-clause-stack : goal.returns-clause-stack
returns-clause-stack c =
    cells-exchanged c.args.stack.now c.rotate_left.new.self c.args.depth c.args.top c.args.under
    c.requires.there c.requires.inside c.rotate_left.ensures.after
