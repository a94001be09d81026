use Rattle.jc_rules.proofs.Stacks.{cells-push}
use Rattle.jc_rules.proofs.effect.push_one.Goals as goal

pub returns-clause-stack : goal.returns-clause-stack
returns-clause-stack c = cells-push c.args.stack.now c.args.depth c.args.ty c.requires.room
